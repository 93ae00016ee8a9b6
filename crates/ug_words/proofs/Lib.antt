pub mod Decimals
pub mod Digits
pub mod Hexadecimal
pub mod KeywordTables
pub mod Tests
pub mod TimeCuts
pub mod WordCuts
mod Begun
mod Cutting
pub mod Meaning
mod Spelling
pub mod Steps

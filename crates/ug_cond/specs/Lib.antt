pub mod Clocks
pub mod Conditions
pub mod Judgements
pub mod Truth
pub mod Words

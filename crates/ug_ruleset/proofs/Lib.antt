pub mod Given
pub mod Edited
pub mod FileTexts
pub mod Readable
pub mod MadeRules
pub mod RowLines
pub mod RuleRowWalk

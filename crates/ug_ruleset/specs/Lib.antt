pub mod MadeRules
pub mod RuleEdits
pub mod RuleFile
pub mod RulePlaces
pub mod RuleRows
pub mod Rows

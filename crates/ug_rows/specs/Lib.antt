pub mod Contrary
pub mod Cuts
pub mod Devices
pub mod RuleRows
pub mod Rows

pub mod Names
pub mod RuleFiles
pub mod Local
pub mod Zones

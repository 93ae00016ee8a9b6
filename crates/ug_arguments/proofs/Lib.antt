pub mod SimpleApps
pub mod Found
pub mod RequestLengths
pub mod ChosenWords

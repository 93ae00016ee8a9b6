pub mod Cutting
pub mod FirstMatches
pub mod Names
pub mod Numbers

pub mod Checking
pub mod CheckingLines
pub mod GeneratedScripts
pub mod Linting
pub mod LintingLines
pub mod Listing
pub mod ListingLines

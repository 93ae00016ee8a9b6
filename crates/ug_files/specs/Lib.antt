pub mod Content
pub mod Untold

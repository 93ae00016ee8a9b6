pub mod Covers
pub mod Operators
pub mod Queries

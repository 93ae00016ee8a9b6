pub mod Truths
pub mod Walks

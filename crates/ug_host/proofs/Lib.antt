pub mod Added
pub mod Apart
pub mod Counting
mod Written

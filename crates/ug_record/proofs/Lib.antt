pub mod Judging
pub mod Newline
mod Cut
mod Faults
mod Grouping
pub mod Meaning
mod Order
pub mod Steps

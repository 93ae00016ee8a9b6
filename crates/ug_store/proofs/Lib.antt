mod Counting
pub mod DiskRuns
mod Passing
pub mod Saving
pub mod Standing
mod Mishaps
pub mod Playing
pub mod PlayedDisk

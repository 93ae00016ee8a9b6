pub mod Runs
pub mod Told
pub mod Paths
pub mod Extending
mod Places
mod Numbering
pub mod Copied

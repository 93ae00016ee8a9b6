pub mod Puts
mod Events
pub mod Linted
pub mod Remaining

pub mod Compared
pub mod Daemon

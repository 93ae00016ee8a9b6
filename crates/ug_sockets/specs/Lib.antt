pub mod Tokens
pub mod Sockets

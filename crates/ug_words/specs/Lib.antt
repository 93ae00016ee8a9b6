pub mod Keywords
pub mod WordGrammar
pub mod Words
pub mod Grammar
pub mod Lexing

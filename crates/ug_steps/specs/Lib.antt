pub mod Words
pub mod LineWords
pub mod Plugs
pub mod IfaceLines
pub mod Grammar
pub mod LineGrammar
pub mod LineExamples

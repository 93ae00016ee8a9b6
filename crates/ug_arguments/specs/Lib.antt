pub mod Arguments
pub mod CommandLines
pub mod CommandWords
pub mod Commands
pub mod SimpleCommands
pub mod Values

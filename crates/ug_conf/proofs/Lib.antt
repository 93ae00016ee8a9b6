pub mod Assigning
pub mod Entries
pub mod FileNames
pub mod Gathering
pub mod LineCases
pub mod Saying
pub mod SeenKeys
pub mod Spacing
pub mod Tables
pub mod Words
mod MemAnswers

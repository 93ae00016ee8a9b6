pub mod Answers
pub mod Counts
pub mod Cuts
pub mod Faults
pub mod Grammar
pub mod Reading
pub mod Streams

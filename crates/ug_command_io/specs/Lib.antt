pub mod Fold
pub mod Reading
pub mod Runs
pub mod Refusals
pub mod Statuses
pub mod WholeInputs

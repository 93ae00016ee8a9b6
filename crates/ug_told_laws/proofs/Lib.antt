pub mod Keeping
pub mod Frames
pub mod Dues
pub mod Stages

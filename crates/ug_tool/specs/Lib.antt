pub mod CarriedOut
pub mod Client
pub mod Faults
pub mod Replay
pub mod Tool

pub mod Stages
pub mod Feeding
pub mod Faults
pub mod Ending
pub mod Outputs
pub mod Taking
pub mod Refusing
pub mod WholeInputs

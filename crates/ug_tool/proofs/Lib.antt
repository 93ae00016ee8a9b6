pub mod CarriedOut
pub mod Memory

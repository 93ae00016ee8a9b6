pub mod FaultKinds
pub mod FirstFault

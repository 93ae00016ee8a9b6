pub mod DiskCalls
pub mod Disk
pub mod Store
pub mod Passed
pub mod Scripted
pub mod MemLaw
pub mod History
pub mod PlayDisk

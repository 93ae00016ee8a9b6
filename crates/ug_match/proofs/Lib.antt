pub mod Membership
pub mod Texts
pub mod Passing

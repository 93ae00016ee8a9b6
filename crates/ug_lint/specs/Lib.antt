pub mod Covers
pub mod Implied
pub mod Certain
pub mod Findings
pub mod Remaining
pub mod Filled
pub mod NeverDecides

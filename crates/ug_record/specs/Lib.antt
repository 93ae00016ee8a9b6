pub mod Records
pub mod Hash
pub mod Grammar
pub mod Reading

pub mod Awaiting
pub mod Search
pub mod Rows
pub mod Once

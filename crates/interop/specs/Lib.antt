pub mod Joins
pub mod Chunks
pub mod Checks
pub mod Interop
pub mod Orders
pub mod Tells

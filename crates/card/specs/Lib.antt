pub mod Bytes
pub mod Fields
pub mod Cards
pub mod Accepted
pub mod Passed
pub mod Found
pub mod Writable

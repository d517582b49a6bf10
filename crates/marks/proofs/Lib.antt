pub mod Records
pub mod Makes
pub mod Writes

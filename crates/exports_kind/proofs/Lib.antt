pub mod Rows
pub mod Scans
pub mod Makes
pub mod Turns
pub mod Sweeps

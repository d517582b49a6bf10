pub mod Copies
pub mod Turns
pub mod Sweeps
pub mod Pointed
pub mod Filled
pub mod Steps
pub mod Requires

pub mod Ways
pub mod Targets

pub mod Facts
pub mod ByFirst
pub mod Bounds
pub mod Settles
pub mod Entered
pub mod Outcomes
pub mod Worked

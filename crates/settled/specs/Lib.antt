pub mod Settled
pub mod First
pub mod Runs
pub mod Theorem
pub mod Examples

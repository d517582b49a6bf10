pub mod Told
pub mod Kept

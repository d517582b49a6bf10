pub mod Ranks
pub mod Whole

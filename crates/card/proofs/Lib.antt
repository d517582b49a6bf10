pub mod Cuts
pub mod Found
pub mod Digits
pub mod Blocks
pub mod Whole

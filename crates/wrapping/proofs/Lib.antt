pub mod Tests
pub mod Whole

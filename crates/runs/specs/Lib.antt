pub mod Made
pub mod Ended

pub mod Cut
pub mod Steps
pub mod Orders
pub mod Tracked
pub mod Listed
pub mod Ends
pub mod Alike

pub mod Joins
pub mod Orders
pub mod Tells

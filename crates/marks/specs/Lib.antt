pub mod Names
pub mod Rules
pub mod Rows
pub mod Records
pub mod Kinds
pub mod Passes

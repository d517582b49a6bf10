pub mod Words
pub mod Numbers
pub mod Flags
pub mod Lines

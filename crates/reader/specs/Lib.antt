pub mod Reading
pub mod Steps
pub mod Number
pub mod Kinds
pub mod Spelled

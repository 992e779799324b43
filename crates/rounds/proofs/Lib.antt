mod Nears
mod Padded
mod Sounds
mod Kept
mod Closed
mod Taken
pub mod Right

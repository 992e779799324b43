pub mod Searches
pub mod Boxes
pub mod Others
pub mod Numbers
pub mod Rotations
pub mod Steps

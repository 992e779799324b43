pub mod Tallies
pub mod Fans
pub mod Whole

pub mod Spring
pub mod Turns
pub mod Worked
pub mod SpringCells

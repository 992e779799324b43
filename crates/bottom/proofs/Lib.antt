pub mod Pouring
pub mod Numbering
pub mod Filling
pub mod Fronts
pub mod Held
pub mod Rows

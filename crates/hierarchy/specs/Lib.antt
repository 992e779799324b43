pub mod Layers
pub mod Theorems
pub mod Examples
pub mod Turns
pub mod Falls

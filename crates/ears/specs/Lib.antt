pub mod Ears
pub mod Cutting
pub mod Shapes
pub mod Numbers
pub mod Examples

pub mod Bounds
pub mod Determinants
pub mod Passings
pub mod Ring
pub mod Signs
pub mod Symbols

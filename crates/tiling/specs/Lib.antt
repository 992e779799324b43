pub mod Cells
pub mod Cuts
pub mod Lemmas
pub mod Order
pub mod Theorems
pub mod Triangles

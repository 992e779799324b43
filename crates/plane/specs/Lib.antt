pub mod Crossings
pub mod Edges
pub mod Identities
pub mod Kernels
pub mod Points
pub mod Printed

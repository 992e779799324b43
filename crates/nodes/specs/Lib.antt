pub mod Bytes
pub mod Nodes
pub mod Stores

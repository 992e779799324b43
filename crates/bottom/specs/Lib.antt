pub mod Bottom
pub mod Cuts

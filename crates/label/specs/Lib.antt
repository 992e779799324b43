pub mod Tips
pub mod Printed

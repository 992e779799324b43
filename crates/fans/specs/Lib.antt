pub mod Around
pub mod Fans
pub mod Examples

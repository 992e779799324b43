pub mod Entries
pub mod Held
pub mod Checks
pub mod Judging

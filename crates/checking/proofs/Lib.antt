pub mod Fronts
pub mod Links
pub mod Reading
pub mod Whole
pub mod Unaltered
pub mod Told
pub mod Loaded
pub mod Judged

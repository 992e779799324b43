pub mod Listing
pub mod Tells

pub mod Listing
pub mod Played

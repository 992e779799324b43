pub mod Choices
pub mod Rounds
pub mod Near

pub mod Sheets
pub mod Answers
pub mod Files
pub mod Load
pub mod Wordings
pub mod Legal
pub mod Numerals

pub mod Answers
pub mod Scripts

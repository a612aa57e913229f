pub mod Decoded
pub mod Groups

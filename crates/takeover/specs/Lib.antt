pub mod TakenOver
pub mod Across

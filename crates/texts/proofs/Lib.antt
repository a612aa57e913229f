pub mod Stores
pub mod Examples

pub mod States
pub mod ListReads

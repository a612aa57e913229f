pub mod Conservation
pub mod Links
pub mod Rows

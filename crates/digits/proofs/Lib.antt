pub mod Digits
pub mod Signs
pub mod Characters
pub mod Back
pub mod Examples

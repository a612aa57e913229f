pub mod Words
pub mod Parsed
pub mod Lines
pub mod Results

pub mod Tests
pub mod Mapi
pub mod Walk
pub mod Numbers
pub mod Chunks
pub mod Bounded
pub mod Data
pub mod Entries

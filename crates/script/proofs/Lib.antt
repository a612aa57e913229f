pub mod Leading
pub mod Splits
pub mod Sames
pub mod Calls
pub mod Frames
pub mod Bodies
pub mod Ends
pub mod Examples

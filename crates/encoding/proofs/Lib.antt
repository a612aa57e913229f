pub mod Telling
pub mod Words
pub mod BitTurns

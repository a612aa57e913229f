pub mod Echoes
pub mod Laws

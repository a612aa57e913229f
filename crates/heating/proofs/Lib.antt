pub mod TakenLaw

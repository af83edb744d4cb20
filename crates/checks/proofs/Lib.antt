pub mod Moves
pub mod Room

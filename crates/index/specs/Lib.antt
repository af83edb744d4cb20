pub mod Index
pub mod Slots
pub mod Place

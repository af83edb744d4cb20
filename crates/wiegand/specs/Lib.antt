pub mod Wiegand
pub mod Theorems

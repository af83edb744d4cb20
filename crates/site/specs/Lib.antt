pub mod Place
pub mod Factor
pub mod Sought

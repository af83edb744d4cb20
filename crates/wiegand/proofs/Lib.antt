pub mod Cases
pub mod Door
pub mod Bits
pub mod Fields
pub mod Parity
pub mod Written
pub mod Changed
pub mod Instances

pub mod Numbered
pub mod PlaceNumber

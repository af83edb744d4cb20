pub mod Laws
pub mod GroupLaws
pub mod Written
pub mod InPlace

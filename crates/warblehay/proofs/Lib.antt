pub mod Cases
pub mod Places

pub mod Places
pub mod Gather
pub mod Decide

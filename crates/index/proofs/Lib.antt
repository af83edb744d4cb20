pub mod Cases
pub mod Walks
pub mod Places
pub mod Tags
pub mod Counts
pub mod Building
pub mod Buckets

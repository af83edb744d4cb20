pub mod Chunks
pub mod Text
pub mod Buffers

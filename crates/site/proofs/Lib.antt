pub mod Records
pub mod RecordKinds
pub mod Places
pub mod Panels
pub mod Values
pub mod Clear

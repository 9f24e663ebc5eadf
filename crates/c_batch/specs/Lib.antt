pub mod Calls
pub mod Status

-- What inner functions promise each other.
pub mod Found
pub mod Stored

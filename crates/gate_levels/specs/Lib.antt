pub mod Levels
pub mod inner
pub mod Compared

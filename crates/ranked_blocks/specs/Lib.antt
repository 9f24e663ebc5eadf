pub mod Ranked
pub mod inner

pub mod Dealing
pub mod inner

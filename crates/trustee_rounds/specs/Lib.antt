pub mod Rounds
pub mod Together
pub mod inner

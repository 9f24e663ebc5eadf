pub mod Tables
pub mod Reasons
pub mod Rounds
pub mod inner

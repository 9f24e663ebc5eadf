pub mod Call
pub mod Ballots
pub mod Run
pub mod inner
pub mod Theorems

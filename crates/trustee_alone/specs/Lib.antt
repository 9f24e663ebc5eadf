pub mod Own
pub mod inner
pub mod Start
pub mod Rounds
pub mod Finish
pub mod Demands

pub mod Answer
pub mod Levels
pub mod Demands

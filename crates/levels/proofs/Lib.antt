pub mod Reasons
pub mod Demands

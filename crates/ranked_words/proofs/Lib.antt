pub mod Behind
pub mod Cutting

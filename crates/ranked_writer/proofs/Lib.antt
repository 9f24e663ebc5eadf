pub mod Filling
pub mod Keeping
pub mod Parts

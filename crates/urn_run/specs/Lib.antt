pub mod Run
pub mod Theorems
pub mod Examples
pub mod inner

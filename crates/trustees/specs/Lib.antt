pub mod Call
pub mod Reasons
pub mod Result
pub mod inner
pub mod Demands

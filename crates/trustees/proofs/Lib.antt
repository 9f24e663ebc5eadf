pub mod Reasons
pub mod Sums
pub mod Accuracy
pub mod Hiding
pub mod Demands

pub mod Tests
pub mod Outside
pub mod Sizes
pub mod Passed
pub mod Memory
pub mod Apart
pub mod Demands

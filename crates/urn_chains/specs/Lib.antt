pub mod Slots
pub mod Chains
pub mod Sound
pub mod Theorems
pub mod inner

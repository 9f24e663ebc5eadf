pub mod Call
pub mod Reasons
pub mod Result
pub mod NoIdleRound
pub mod inner
pub mod Theorems
pub mod Examples

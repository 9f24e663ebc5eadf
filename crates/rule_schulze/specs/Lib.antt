pub mod Schulze
pub mod Closure
pub mod Winner
pub mod Panels
pub mod Votes
pub mod inner
pub mod Theorems

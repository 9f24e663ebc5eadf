pub mod JuryTests
pub mod Whole
pub mod Theorems
pub mod Examples
pub mod OneJury

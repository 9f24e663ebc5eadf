pub mod Members
pub mod Paths
pub mod Winning
pub mod Tables
pub mod Counting
pub mod LastDetour
pub mod Theorems

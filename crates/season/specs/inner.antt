-- What inner functions require of each other.
pub mod Sums

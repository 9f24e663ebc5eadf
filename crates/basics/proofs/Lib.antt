-- Laws of truth values, cases, numbers, and tables of numbers.
pub mod Flags
pub mod Cases
pub mod Arithmetic
pub mod Tabulate
pub mod Sums
pub mod Same
pub mod Tables

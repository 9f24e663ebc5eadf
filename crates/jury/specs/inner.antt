-- What the functions of this crate require of each other; no entry point's contract needs it.
pub mod Counts
pub mod Ballots
pub mod Orders

-- What the functions of this crate ask for and do; no entry point's contract needs it.
pub mod Contests
pub mod Losers
pub mod Paths

-- What the functions of this crate, and of `gate_adders`, ask of each other; no entry point's contract needs it.
pub mod Ready
pub mod Counts

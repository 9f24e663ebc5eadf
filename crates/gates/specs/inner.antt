-- What the functions of this crate ask of each other; no entry point's contract needs it.
pub mod Step
pub mod Marked

-- What the functions of this crate require and leave; no entry point's contract needs it.
pub mod Tables
pub mod Gate
pub mod Evaluate

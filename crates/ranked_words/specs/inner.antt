-- What the functions of this crate ask for; no entry point's contract needs it.
pub mod Orders
pub mod Meeting

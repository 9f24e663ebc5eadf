-- What the functions of this crate promise each other; no entry point's contract needs it.
pub mod OwnSize

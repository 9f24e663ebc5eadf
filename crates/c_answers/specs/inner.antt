-- What the functions that put answers promise each other and the exported calls.
pub mod Puts

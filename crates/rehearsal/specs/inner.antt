-- What the functions of the rehearsal require of each other and promise.
pub mod Buffers
pub mod Rehearses

pub mod Rehearsal
pub mod inner

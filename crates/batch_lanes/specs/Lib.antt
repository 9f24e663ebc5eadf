pub mod Lane
pub mod Run
pub mod inner
pub mod Examples

pub mod Numbers
pub mod Status
pub mod inner

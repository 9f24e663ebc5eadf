pub mod Numbers
pub mod inner
pub mod Status

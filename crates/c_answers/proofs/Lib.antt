pub mod Copying
pub mod Answering
pub mod Statuses

pub mod Statuses
pub mod Putting

pub mod Entering
pub mod Publishing
pub mod Together
pub mod Passing
pub mod Closing

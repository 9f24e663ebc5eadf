pub mod Puts
pub mod Parity
pub mod Tests
pub mod Entering
pub mod Running
pub mod Evaluating
pub mod Dealt

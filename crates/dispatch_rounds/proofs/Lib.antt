pub mod Pieces
pub mod Passed
pub mod JuryStates
pub mod MidRound
pub mod Turns

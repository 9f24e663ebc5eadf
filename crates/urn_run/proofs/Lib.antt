-- Laws that the proofs of functions rest on.
pub mod JoinedBallots
pub mod LoadedWires
pub mod Reasons
pub mod Theorems
pub mod Examples

-- Laws that the proofs of functions rest on.
pub mod Sums
pub mod Limits
pub mod Constructed
pub mod Searches
pub mod WidthLaws
pub mod BallotLaws
pub mod AcceptedLaws
pub mod CountLaws
pub mod Matrix
pub mod Rows
-- Facts for readers and for the layers above.
pub mod CountFacts
pub mod BallotOrder
pub mod RankingLaws
pub mod Theorems
pub mod Scores
mod Chunks

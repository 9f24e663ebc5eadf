pub mod Blocks
pub mod Table
pub mod Stages
pub mod Paths
pub mod Contests
pub mod RankedList
pub mod OwnRanking
pub mod Cost

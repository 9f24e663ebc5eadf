pub mod RowLaws
pub mod JuryLaws
pub mod Reasons
pub mod Theorems
pub mod Refusals
pub mod RankLaws

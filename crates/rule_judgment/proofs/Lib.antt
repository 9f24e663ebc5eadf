-- The median and running sums.
pub mod MedianFacts
pub mod RunningSums
-- The majority gauge.
pub mod GaugeConditions
pub mod GaugeClosing
-- What a circuit for the rule rests on, as statements.
pub mod Statements
-- Sequences and their order, by positions.
pub mod Positions
pub mod Outward
pub mod Order
-- Which of two sequences comes first, by running sums.
pub mod SumRule
pub mod Thresholds
-- Facts for readers: the statements of specs/Theorems.antt and specs/Raised.antt.
pub mod Winners
pub mod GaugeAgrees
pub mod Equal
pub mod Improved
pub mod Raising
pub mod Theorems
-- Laws that the proofs of functions rest on.
pub mod Deciding
pub mod Walking
pub mod SameCounts
pub mod Leading

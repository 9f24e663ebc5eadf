-- The definitions of the gate layer. Only this crate names these modules and can unfold them. Other crates get the
-- names by plain `pub use`, and use the laws in proofs/.
pub mod Kind
pub mod Gate
pub mod Wires
pub mod Board
pub mod Test
pub mod Step

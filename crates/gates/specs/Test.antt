-- The tests of a gate list and of the bytes lent for its run.
use Rattle.std.specs.Prelude.{cond, List, [], ◌∷◌, ℕ, suc, ltb, Option, Some, None}
pub use Rattle.gates.specs.Open.Test.{most_gates, good_operand, good_gate, first_bad, accepted, judged, tested}

-- The place of the first byte above 1. The first byte of the list has place i. This is about bytes and not about
-- gates, so every layer may unfold it.
unfoldable pub first_above_one : ℕ → List ℕ → Option ℕ
first_above_one i [] = None
first_above_one i (x ∷ xs) = cond (ltb 1 x) (Some i) (first_above_one (suc i) xs)

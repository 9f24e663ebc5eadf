-- What the blocks of a contest ask for: room for their gates, operands that are wires already, and small numbers.
use Rattle.std.specs.Prelude.{◌≡◌, ℕ, suc, ◌+◌, ◌-◌, ◌*◌, ◌≤◌, ◌<◌}
use Rattle.gate_words.specs.Limits.{writer_limit}
use Rattle.gate_words.specs.Halves.{compare_span}
use Rattle.gate_words.specs.Writing.{Room}
use Rattle.gate_words.specs.declared.writer.Writer.{Writer}
use Rattle.graded_circuit.specs.declared.plan.Plan.{Plan}
use Rattle.graded_circuit.specs.Plan.{Planned}
use Rattle.graded_circuit.specs.Key.{key_span}
use Rattle.graded_circuit.specs.Contest.{medians_span}
use Rattle.graded_circuit.specs.Nearest.{stride}
use Rattle.graded_circuit.specs.TieBreak.{compare_and_reach_span, resolve_span}

-- For a block over the keys at x and y. The high half of a sum, of `high` digits, leaves a digit for the low half.
pub record KeysReady (w : Writer) (gates : ℕ) (p : Plan) (x y high : ℕ) : Type 0 where
  pub plan : Planned p
  pub room : Room w gates
  pub first_below : x + key_span p ≤ w.wire
  pub second_below : y + key_span p ≤ w.wire
  pub cut : high ≤ p.digits - 1

-- For the comparison of the medians of the keys at x and y.
pub record MediansReady (w : Writer) (p : Plan) (x y : ℕ) : Type 0 where
  pub planned : Planned p
  pub room : Room w (medians_span p)
  pub first_below : x + key_span p ≤ w.wire
  pub second_below : y + key_span p ≤ w.wire

-- For the comparison of the single sums at x and y.
pub record SumReady (w : Writer) (x y above high : ℕ) : Type 0 where
  pub room : Room w (compare_span above + 2)
  pub first_below : x + suc above ≤ w.wire
  pub second_below : y + suc above ≤ w.wire
  pub cut : high ≤ above

-- For the comparison of two keys of between + 2 sums, with above + 1 digits each.
pub record TieBreakReady (w : Writer) (gates x y above high between : ℕ) : Type 0 where
  pub room : Room w gates
  pub first_below : x + suc (suc between) * stride above ≤ w.wire
  pub second_below : y + suc (suc between) * stride above ≤ w.wire
  pub narrow : above ≤ 7
  pub few : between ≤ 6
  pub cut : high ≤ above

-- For the comparison of the chosen words: a and c are below the median, u and v from it on.
pub record ReachReady (w : Writer) (a c u v above high : ℕ) : Type 0 where
  pub room : Room w (compare_and_reach_span above)
  pub a_below : a + suc above ≤ w.wire
  pub c_below : c + suc above ≤ w.wire
  pub u_below : u + suc above ≤ w.wire
  pub v_below : v + suc above ≤ w.wire
  pub cut : high ≤ above

-- For a part of `resolve`, which starts at wire q.
pub record PartReady (w : Writer) (gates q : ℕ) : Type 0 where
  pub room : Room w gates
  pub small : q + resolve_span < writer_limit

-- For all of `resolve`, after the comparisons and carries from wire m on.
pub record ResolveReady (w : Writer) (m above span : ℕ) : Type 0 where
  pub room : Room w resolve_span
  pub place : w.wire ≡ m + compare_and_reach_span above
  pub span_is : span ≡ compare_span above
  pub narrow : above ≤ 7

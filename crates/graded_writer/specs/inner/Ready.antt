-- What writing the own list asks for: a plan, room for gates, and the places of what is already written.
use Rattle.std.specs.Prelude.{◌≡◌, ℕ, ◌+◌, ◌-◌, ◌*◌, ◌/◌, ◌≤◌, ◌<◌, length}
use Rattle.gate_words.specs.Limits.{writer_limit}
use Rattle.gate_words.specs.Writing.{Room}
use Rattle.gate_words.specs.declared.writer.Writer.{Writer}
use Rattle.graded_circuit.specs.declared.plan.Plan.{Plan}
use Rattle.graded_circuit.specs.Plan.{Planned}
use Rattle.graded_circuit.specs.Key.{key_span, candidate_span}
use Rattle.graded_circuit.specs.Merge.{merge_span}
use Rattle.graded_circuit.specs.OwnList.{levels_span, low_levels, levels_at, circuit}

-- For the circuits of all candidates.
pub record CandidatesReady (w : Writer) (p : Plan) : Type 0 where
  pub plan : Planned p
  pub room : Room w (p.candidates * candidate_span p)
  pub inputs_below : p.inputs ≤ w.wire

-- For the place of candidate c's key.
pub record KeyAtReady (p : Plan) (span c : ℕ) : Type 0 where
  pub plan : Planned p
  pub span_is : span ≡ candidate_span p
  pub inside : c < p.candidates
  pub small : levels_at p < writer_limit

-- For the place of the key of the best of `count` candidates from candidate c on, whose merges end just before wire
-- `end`.
pub record BestReady (p : Plan) (span c count end : ℕ) : Type 0 where
  pub plan : Planned p
  pub span_is : span ≡ candidate_span p
  pub inside : c < p.candidates
  pub small : levels_at p < writer_limit
  pub key_below : 1 < count → key_span p ≤ end

-- For the place of the wires that say who of `count` candidates is as good as the best.
pub record WinnersReady (p : Plan) (count end : ℕ) : Type 0 where
  pub plan : Planned p
  pub below : 1 < count → count + key_span p ≤ end

-- For the merges of a group of more than `least` and at most `most` candidates, from candidate c on.
pub record GroupReady (w : Writer) (gates : ℕ) (p : Plan) (span c count least most : ℕ) : Type 0 where
  pub plan : Planned p
  pub room : Room w gates
  pub span_is : span ≡ candidate_span p
  pub levels_below : levels_at p ≤ w.wire
  pub some : least < count
  pub few : count ≤ most
  pub inside : c + count ≤ p.candidates

-- For the merge of two groups. The merges of the first one end just before wire `middle`, those of the second just
-- before the writer's wire.
pub record HalvesReady (w : Writer) (p : Plan) (span c first second middle : ℕ) : Type 0 where
  pub plan : Planned p
  pub room : Room w (merge_span p first second)
  pub span_is : span ≡ candidate_span p
  pub levels_below : levels_at p ≤ middle
  pub middle_below : middle ≤ w.wire
  pub first_some : 0 < first
  pub second_some : 0 < second
  pub inside : c + first + second ≤ p.candidates
  pub first_below : 1 < first → levels_at p + first + key_span p ≤ middle
  pub second_below : 1 < second → middle + second + key_span p ≤ w.wire

-- For all levels of merges.
pub record LevelsReady (w : Writer) (p : Plan) (span : ℕ) : Type 0 where
  pub plan : Planned p
  pub room : Room w (levels_span p low_levels (p.candidates / 2)
      + (levels_span p low_levels (p.candidates - p.candidates / 2)
      + merge_span p (p.candidates / 2) (p.candidates - p.candidates / 2)))
  pub span_is : span ≡ candidate_span p
  pub place : w.wire ≡ levels_at p
  pub several : 1 < p.candidates

-- For the whole circuit.
pub record CircuitReady (w : Writer) (p : Plan) : Type 0 where
  pub plan : Planned p
  pub room : Room w (length (circuit p))
  pub place : w.wire ≡ p.inputs
  pub several : 1 < p.candidates

-- For the wires of `count` candidates after a merge. A single candidate has no wire before it.
pub record KeepReady (w : Writer) (at count : ℕ) : Type 0 where
  pub room : Room w count
  pub some : 0 < count
  pub below : 1 < count → at + count ≤ w.wire

-- For the gates after a contest with its result at wires q and q + 1.
pub record SelectReady (w : Writer) (q : ℕ) : Type 0 where
  pub room : Room w 3
  pub place : w.wire ≡ q + 2

-- For the merge of groups of l and m candidates, with keys at x and y, whose wires start at u and v.
pub record MergeReady (w : Writer) (p : Plan) (x y u v l m : ℕ) : Type 0 where
  pub plan : Planned p
  pub room : Room w (merge_span p l m)
  pub first_below : x + key_span p ≤ w.wire
  pub second_below : y + key_span p ≤ w.wire
  pub first_some : 0 < l
  pub second_some : 0 < m
  pub first_won : 1 < l → u + l ≤ w.wire
  pub second_won : 1 < m → v + m ≤ w.wire

-- For the better of the keys at x and y, by wire q + 1.
pub record BetterReady (w : Writer) (p : Plan) (q x y : ℕ) : Type 0 where
  pub plan : Planned p
  pub room : Room w (key_span p)
  pub first_below : x + key_span p ≤ w.wire
  pub second_below : y + key_span p ≤ w.wire
  pub told : q + 1 < w.wire

-- The edges [edges] of a plain count and the jury of [rehearsal], computed by the definitions; and the edge of a
-- list's length, for every list of that length.
-- Assumes nothing.
use Rattle.std.specs.Prelude.{Err}
use mathlib.Core.Path.{◌≡◌, refl}
use mathlib.Core.Bool.{Bool, true, false}
use mathlib.Core.Option.{Option, none, some}
use mathlib.Core.List.{List, [], ◌∷◌, map, flat_map}
use Prim.Native.Nat.{ℕ, ◌<◌, ◌≤◌, ◌%◌}
use native.Mathlib.Omega.{arith}
use lib.Dec.{eqb}
use lib.ListN.{length}
use Rattle.gates.specs.Gate.{numbers_of}
use Rattle.gates.specs.Test.{first_above_one}
use Rattle.gates.specs.declared.list.ListFault.TheVariants.{PartOfAGate, TooManyGates}
use Rattle.gates.proofs.Accepting.{zeros, zeros_length, zeros_free, zeros_good, good_list_accepted, part_of_a_gate, too_many}
use Rattle.jury.specs.declared.shape.Shape.{Shape}
use Rattle.jury.specs.Shape.{is_ranking, graded_limits, ranked_limits, within_limits, columns, ballot_bytes}
use Rattle.jury.specs.Reason.{Reason, reason_at, reason_of, refusal_of, unless, found_at, list_reason, first_of}
use Rattle.jury.specs.Ballots.{ones, rows_of, first_bad_row, graded_reasons, ranked_reasons, ballot_kind_reasons, ballot_reasons}
use Rattle.jury.specs.Rankings.{rank_place, before, or_else, first_over, not_asymmetric_at, not_asymmetric_in_row, not_asymmetric_in_ballot, first_not_asymmetric, neither_after_nor_before, not_weak_order_after, not_weak_order, first_not_weak_order}
use Rattle.basics.specs.Below.{some_below}
use Rattle.basics.specs.Lists.{sum, tabulate, all, maximum}
use Rattle.jury.specs.Counts.{byte_of, count_up_to, count_of, counts_of}
use Rattle.rule_judgment.specs.Median.{median_from, median_of}
use Rattle.jury.specs.ClosingBytes.{eight_bytes}
use Rattle.rule_judgment.specs.Judgment.{strike, strikes, sequence_of, precedes, none_precedes, judgment_of}
use Rattle.jury.proofs.Limits.{bounds}
use Rattle.rule_schulze.specs.Schulze.{link, weakest, all_candidates, without, selections, simple_paths, strongest, wins, schulze_of}
use Rattle.rule_schulze.specs.Votes.{votes}
use Rattle.tally.specs.Rule.{closing_for}
use Rattle.tally.specs.Count.{count_reason, count_reasons, closing_after, plain_closing}
use Rattle.tally.specs.Answer.{refused as refused_outcome, accepted}
use Rattle.tally.specs.Test.{test_outcome}
use Rattle.tally.proofs.TestReasons.{list_refused, list_accepted}

pub record Edge : Type 0 where
  pub shape : Shape
  pub ballots : List ℕ
  pub reason : Option Reason
  pub closing : List ℕ

refused : ℕ → ℕ → ℕ → List ℕ → ℕ → ℕ → Edge
refused k d n bytes number place = record {
  shape = record { candidates = k; grades = d; ballots = n };
  ballots = bytes;
  reason = some (reason_at number place);
  closing = 0 ∷ 0 ∷ 0 ∷ 0 ∷ 0 ∷ 0 ∷ 0 ∷ 0 ∷ [];
}

-- Grades: shapes just outside the limits (1), ballots too short and too long (4), a byte 2 (5), a row without a 1
-- and one with two (6), a byte 2 after an empty row (5). Rankings: also 1 and 4, the earlier of two opposite bytes
-- (11), 2 tied with 0 and 1 while 0 is before 1 (12), and that with a diagonal byte in a later ballot (11).
pub edges : List Edge
edges =
    refused 0 2 1 [] 1 0
    ∷ refused 9 2 1 [] 1 0
    ∷ refused 1 1 1 (1 ∷ []) 1 0
    ∷ refused 1 8 1 (1 ∷ 0 ∷ 0 ∷ 0 ∷ 0 ∷ 0 ∷ 0 ∷ 0 ∷ []) 1 0
    ∷ refused 1 2 0 [] 1 0
    ∷ refused 1 2 256 [] 1 0
    ∷ refused 1 2 1 (1 ∷ []) 4 0
    ∷ refused 1 2 1 (1 ∷ 0 ∷ 0 ∷ []) 4 0
    ∷ refused 1 2 1 (0 ∷ 2 ∷ []) 5 1
    ∷ refused 1 2 2 (1 ∷ 0 ∷ 0 ∷ 0 ∷ []) 6 1
    ∷ refused 2 2 1 (1 ∷ 1 ∷ 0 ∷ 1 ∷ []) 6 0
    ∷ refused 1 2 2 (0 ∷ 0 ∷ 2 ∷ 1 ∷ []) 5 2
    ∷ refused 9 0 1 [] 1 0
    ∷ refused 0 0 1 [] 1 0
    ∷ refused 2 0 0 [] 1 0
    ∷ refused 2 0 256 [] 1 0
    ∷ refused 2 0 1 (0 ∷ 1 ∷ 0 ∷ []) 4 0
    ∷ refused 3 0 1 (0 ∷ 0 ∷ 1 ∷ 0 ∷ 1 ∷ 0 ∷ 1 ∷ 0 ∷ 0 ∷ []) 11 2
    ∷ refused 2 0 2 (0 ∷ 1 ∷ 0 ∷ 0 ∷ 0 ∷ 0 ∷ 0 ∷ 1 ∷ []) 11 7
    ∷ refused 3 0 1 (0 ∷ 1 ∷ 0 ∷ 0 ∷ 0 ∷ 0 ∷ 0 ∷ 0 ∷ 0 ∷ []) 12 0
    ∷ refused 3 0 2 (0 ∷ 1 ∷ 0 ∷ 0 ∷ 0 ∷ 0 ∷ 0 ∷ 0 ∷ 0 ∷ 1 ∷ 0 ∷ 0 ∷ 0 ∷ 0 ∷ 0 ∷ 0 ∷ 0 ∷ 0 ∷ []) 11 9
    ∷ record {
      shape = record { candidates = 3; grades = 0; ballots = 1 };
      ballots = 0 ∷ 1 ∷ 1 ∷ 0 ∷ 0 ∷ 0 ∷ 0 ∷ 0 ∷ 0 ∷ [];
      reason = none;
      closing = 1 ∷ 0 ∷ 0 ∷ 0 ∷ 0 ∷ 0 ∷ 0 ∷ 0 ∷ [];
    }
    ∷ record {
      shape = record { candidates = 2; grades = 3; ballots = 3 };
      ballots = 1 ∷ 0 ∷ 0 ∷ 0 ∷ 1 ∷ 0 ∷ 0 ∷ 1 ∷ 0 ∷ 0 ∷ 1 ∷ 0 ∷ 0 ∷ 1 ∷ 0 ∷ 0 ∷ 0 ∷ 1 ∷ [];
      reason = none;
      closing = 1 ∷ 0 ∷ 0 ∷ 0 ∷ 0 ∷ 0 ∷ 0 ∷ 0 ∷ [];
    }
    ∷ []

pub edges_reasons : map (λ (e : Edge). count_reason e.shape e.ballots) edges ≡ map (λ (e : Edge). e.reason) edges
unfolding edges refused count_reason count_reasons is_ranking graded_limits ranked_limits within_limits columns ballot_bytes reason_at
    unless found_at first_of ones rows_of first_bad_row graded_reasons ranked_reasons ballot_kind_reasons ballot_reasons rank_place before or_else
    first_over some_below not_asymmetric_at not_asymmetric_in_row not_asymmetric_in_ballot first_not_asymmetric
    neither_after_nor_before not_weak_order_after not_weak_order first_not_weak_order first_above_one
edges_reasons = refl

pub edges_closing : map (λ (e : Edge). plain_closing e.shape e.ballots) edges ≡ map (λ (e : Edge). e.closing) edges
unfolding edges refused count_reason count_reasons is_ranking graded_limits ranked_limits within_limits columns ballot_bytes reason_at
    unless found_at first_of ones rows_of first_bad_row graded_reasons ranked_reasons ballot_kind_reasons ballot_reasons rank_place before or_else
    first_over some_below not_asymmetric_at not_asymmetric_in_row not_asymmetric_in_ballot first_not_asymmetric
    neither_after_nor_before not_weak_order_after not_weak_order first_not_weak_order first_above_one byte_of count_up_to count_of
    tabulate counts_of sum median_from median_of strike strikes sequence_of precedes none_precedes judgment_of closing_for
    link weakest all_candidates without selections maximum simple_paths strongest all wins schulze_of votes flat_map
    eight_bytes closing_after plain_closing
edges_closing = refl

-- 1,048,576 gates are not too many.
pub most_gates : (s : Shape) (n : ℕ) → within_limits s ≡ true → s.candidates ≤ n → n ≤ 1048576
    → test_outcome s (numbers_of (zeros n)) ≡ accepted (record { gates = n; conditional = 0 })
most_gates s n w enough few =
    let l = zeros_length n in
    let t = good_list_accepted (ballot_bytes s) s.candidates (zeros n) (zeros_good (ballot_bytes s) n) (omega arith) (omega arith) in
    list_accepted s (numbers_of (zeros n)) w n 0 (rw (zeros_length n, zeros_free n) at t)

-- A table of more than 4,194,304 numbers is refused, whatever they are.
pub one_gate_more : (s : Shape) (table : List ℕ) → within_limits s ≡ true → 4194304 < length table
    → test_outcome s table ≡ refused_outcome (reason_at 2 0)
one_gate_more s table w long = by (eqb (length table % 4) 0) refl
  where
    by : (whole : Bool) → eqb (length table % 4) 0 ≡ whole → test_outcome s table ≡ refused_outcome (reason_at 2 0)
    by false e = list_refused s table w (Err PartOfAGate) (reason_at 2 0)
        (part_of_a_gate (ballot_bytes s) s.candidates table e) (unfold list_reason refusal_of reason_of in refl)
    by true e = list_refused s table w (Err TooManyGates) (reason_at 2 0)
        (too_many (ballot_bytes s) s.candidates table e (omega (arith, (bounds s w).k_most)) long) (unfold list_reason refusal_of reason_of in refl)

-- The pair of runs of specs/RaisedRuns: the own list of any shape within the limits can be written and run on any
-- accepted ballots, and its closing bytes are the rule's, which compute.
-- Assumes nothing.
use mathlib.Core.Path.{◌≡◌, ◌∙◌, refl, ap}
use mathlib.Core.Bool.{Bool, true, false}
use mathlib.Core.Logic.{◌⊎◌, inl, inr, ◌≢◌}
use mathlib.Core.List.{List, [], ◌∷◌}
use Prim.Native.Nat.{ℕ, zero, suc, ◌+◌, ◌*◌, ◌<◌}
use native.Mathlib.Omega.{arith}
use lib.Dec.{leb}
use lib.ListN.{length, replicate, length-replicate}
use borrow.Author.Tests.{le-leb}
use Rattle.basics.specs.Lists.{sum, tabulate}
use Rattle.basics.proofs.Tables.{zeros_at}
use Rattle.gates.specs.Gate.{gates_of}
use Rattle.gates.specs.Board.{conditional_count, MaskTape}
use Rattle.gates.specs.Test.{first_above_one}
use Rattle.jury.specs.declared.shape.Shape.{Shape}
use Rattle.jury.specs.Shape.{is_ranking, graded_limits, ranked_limits, within_limits, columns, ballot_bytes}
use Rattle.jury.specs.Reason.{unless, found_at, first_of}
use Rattle.jury.specs.Ballots.{ones, rows_of, first_bad_row, graded_reasons, ballot_kind_reasons, ballot_reasons}
use Rattle.jury.specs.Accepted.{AcceptedBallots}
use Rattle.jury.specs.Counts.{byte_of, count_up_to, count_of, counts_of}
use Rattle.jury.proofs.Theorems.{tests_accept}
use Rattle.rule_judgment.specs.Median.{median_of, median_from}
use Rattle.rule_judgment.specs.Judgment.{judgment_of, none_precedes, precedes, sequence_of, strikes, strike}
use Rattle.rule_judgment.specs.Raised.{Raised, byte_for}
use Rattle.tally.specs.Answer.{accepted, outcome, size_of}
use Rattle.tally.specs.OwnList.{own_list}
use Rattle.tally.specs.Write.{write_reasons, write_outcome}
use Rattle.tally.specs.Demands.{list_in}
use Rattle.tally.specs.Monotone.{OwnRun, TwoRuns}
use Rattle.tally.specs.RaisedRuns.{two_candidates, liked, liked_more, RaisedRuns}
use Rattle.tally.proofs.Demands.{three_demands}
use Rattle.tally.proofs.Monotone.{before_is, after_is}

module _ (s : Shape) (w : within_limits s ≡ true) where
  abbrev room : List ℕ
  room = replicate (4 * length (own_list s)) 0

  written : write_outcome s room ≡ accepted (size_of (own_list s))
  unfolding write_outcome write_reasons unless first_of outcome
  written =
      ap (λ (t : Bool). outcome (first_of (unless t 1 ∷ unless (leb (4 * length (own_list s)) (length room)) 2 ∷ [])) (size_of (own_list s))) w
      ∙ ap (λ (t : Bool). outcome (first_of (unless t 2 ∷ [])) (size_of (own_list s)))
      (le-leb (4 * length (own_list s)) (length room) (omega (arith, length-replicate {A = ℕ} (4 * length (own_list s)) 0)))

  -- C of the list that was written
  abbrev masks : ℕ
  masks = conditional_count (gates_of (list_in s (size_of (own_list s)) room))

  tape : MaskTape (gates_of (list_in s (size_of (own_list s)) room)) (replicate masks 0)
  tape = record { size = length-replicate masks 0; bits = λ i. omega (arith, zeros_at masks i) }

  own_run : (xs : List ℕ) → AcceptedBallots s xs → OwnRun s room (size_of (own_list s)) xs
  own_run xs a =
      let wires = ballot_bytes s + (size_of (own_list s)).gates in
      let board = (size_of (own_list s)).conditional + s.candidates in
      record {
        tape = replicate masks 0;
        wires = replicate wires 0;
        board = replicate board 0;
        answer = size_of (own_list s);
        accepts = (three_demands.accuracy s room (size_of (own_list s)) written).runs xs (replicate masks 0)
            (replicate wires 0) (replicate board 0) a tape (length-replicate wires 0) (length-replicate board 0);
      }

  two_runs : (old new : List ℕ) → AcceptedBallots s old → AcceptedBallots s new → TwoRuns s room (size_of (own_list s)) old new
  two_runs old new a b = record { written = written; before = own_run old a; after = own_run new b }

within : within_limits two_candidates ≡ true
unfolding is_ranking graded_limits ranked_limits within_limits
within = refl

graded : graded_limits two_candidates ≡ true
unfolding graded_limits
graded = refl

liked_accepted : AcceptedBallots two_candidates liked
unfolding is_ranking graded_limits ranked_limits within_limits columns graded_reasons ballot_kind_reasons ballot_reasons
    ballot_bytes ones rows_of first_bad_row unless found_at first_of first_above_one
liked_accepted = (tests_accept.ballots two_candidates liked).0 refl

more_accepted : AcceptedBallots two_candidates liked_more
unfolding is_ranking graded_limits ranked_limits within_limits columns graded_reasons ballot_kind_reasons ballot_reasons
    ballot_bytes ones rows_of first_bad_row unless found_at first_of first_above_one
more_accepted = (tests_accept.ballots two_candidates liked_more).0 refl

-- only the first candidate's row differs
others : (b c g : ℕ) → b < 1 → c < 2 → g < 3 → (b ≢ 0) ⊎ (c ≢ 0) → byte_of two_candidates liked_more b c g ≡ byte_of two_candidates liked b c g
unfolding byte_of
others zero zero g hb hc hg (inl n) = absurd (n refl)
others zero zero g hb hc hg (inr n) = absurd (n refl)
others zero (suc zero) zero hb hc hg n = refl
others zero (suc zero) (suc zero) hb hc hg n = refl
others zero (suc zero) (suc (suc zero)) hb hc hg n = refl
others zero (suc zero) (suc (suc (suc g))) hb hc hg n = absurd (omega arith)
others zero (suc (suc c)) g hb hc hg n = absurd (omega arith)
others (suc b) c g hb hc hg n = absurd (omega arith)

raised : Raised two_candidates 0 liked liked_more
unfolding byte_of
raised = record {
  old_accepted = (tests_accept.grades two_candidates liked graded).0 liked_accepted;
  new_accepted = (tests_accept.grades two_candidates liked_more graded).0 more_accepted;
  a_candidate = omega arith;
  ballot = 0;
  a_ballot = omega arith;
  from = 1;
  to = 0;
  better = omega arith;
  a_grade = omega arith;
  old_grade = refl;
  new_grade = refl;
  others = others;
}

no_ranking : is_ranking two_candidates ≡ false
unfolding is_ranking
no_ranking = refl

-- the rule's bytes
record Bytes (xs : List ℕ) : Type 0 where
  first : byte_for two_candidates xs 0 ≡ 1
  second : byte_for two_candidates xs 1 ≡ 0

liked_bytes : Bytes liked
unfolding judgment_of none_precedes precedes sequence_of strikes strike median_of median_from sum counts_of count_of count_up_to
    byte_of tabulate
liked_bytes = record { first = refl; second = refl }

more_bytes : Bytes liked_more
unfolding judgment_of none_precedes precedes sequence_of strikes strike median_of median_from sum counts_of count_of count_up_to
    byte_of tabulate
more_bytes = record { first = refl; second = refl }

pub raised_runs : RaisedRuns
raised_runs =
    let s = two_candidates in
    let r = two_runs s within liked liked_more liked_accepted more_accepted in
    let size = size_of (own_list s) in
    let before = before_is s (room s within) size liked liked_more r no_ranking in
    let after = after_is s (room s within) size liked liked_more r no_ranking in
    record {
      table = room s within;
      size = size;
      runs = r;
      raised = raised;
      wins = before 0 ∙ liked_bytes.first;
      loses = before 1 ∙ liked_bytes.second;
      still_wins = after 0 ∙ more_bytes.first;
      still_loses = after 1 ∙ more_bytes.second;
    }

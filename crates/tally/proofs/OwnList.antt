-- What write's contract says about the own list, by the kind of the shape.
-- Assumes nothing.
use mathlib.Core.Path.{◌≡◌, ◌∙◌, sym, ap, subst}
use mathlib.Core.Bool.{Bool, true, false, cond}
use mathlib.Core.List.{List}
use Prim.Native.Nat.{ℕ, ◌≤◌}
use lib.ListN.{length}
use Rattle.gates.specs.Gate.{Gate, numbers_of}
use Rattle.gates.specs.Wires.{wires_of, outputs_of}
use Rattle.gates.specs.Board.{conditional_count}
use Rattle.gates.specs.Test.{tested}
use Rattle.gates.specs.Test as gate_test
use Rattle.gates.proofs.Accepting.{good_list_accepted}
use Rattle.jury.specs.declared.shape.Shape.{Shape}
use Rattle.jury.specs.Shape.{is_ranking, within_limits, ballot_bytes}
use Rattle.jury.specs.Width.{width_of}
use Rattle.jury.specs.Accepted.{AcceptedBallots}
use Rattle.jury.proofs.AcceptedLaws as ballots_laws
use Rattle.jury.proofs.Limits.{Ranked, ranked, ranked_bytes, graded_kind, ranked_kind}
use Rattle.graded_circuit.specs.OwnList.{own_grading}
use Rattle.graded_circuit.specs.Bound.{grading_bound}
use Rattle.graded_circuit.proofs.Accuracy.{own, own_list_is_accurate}
use Rattle.graded_circuit.proofs.OwnListLaws.{own_list_keeps_the_bound, own_list_short}
use Rattle.ranked_circuit.specs.OwnRanking.{own_ranking, ranking_bound, OwnRankingHolds}
use Rattle.ranked_circuit.proofs.OwnRankingLaws.{own_ranking_holds}
use Rattle.tally.specs.Answer.{accepted, size_of}
use Rattle.tally.specs.Rule.{closing_for}
use Rattle.tally.specs.OwnList.{own_list, gate_bound}
use Rattle.tally.specs.Test.{test_outcome}
use Rattle.tally.specs.Write.{OwnListHolds}
use Rattle.tally.proofs.Rules.{closing_graded, closing_ranked}
use Rattle.tally.proofs.TestReasons.{list_accepted}
use Rattle.basics.proofs.Flags.{either}

-- the list and the bound of each kind
pub own_graded : (s : Shape) → is_ranking s ≡ false → own_list s ≡ own_grading s
unfolding own_list
own_graded s e = ap (λ (t : Bool). cond t (own_ranking s.candidates s.ballots) (own_grading s)) e

pub own_ranked : (s : Shape) → is_ranking s ≡ true → own_list s ≡ own_ranking s.candidates s.ballots
unfolding own_list
own_ranked s e = ap (λ (t : Bool). cond t (own_ranking s.candidates s.ballots) (own_grading s)) e

bound_graded : (s : Shape) → is_ranking s ≡ false → gate_bound s ≡ grading_bound s
unfolding gate_bound
bound_graded s e = ap (λ (t : Bool). cond t (ranking_bound s.candidates s.ballots (width_of s.ballots)) (grading_bound s)) e

bound_ranked : (s : Shape) → is_ranking s ≡ true → gate_bound s ≡ ranking_bound s.candidates s.ballots (width_of s.ballots)
unfolding gate_bound
bound_ranked s e = ap (λ (t : Bool). cond t (ranking_bound s.candidates s.ballots (width_of s.ballots)) (grading_bound s)) e

module _ (s : Shape) (w : within_limits s ≡ true) where
  -- what the kinds have in common
  record Holds : Type 0 where
    takes : tested (ballot_bytes s) s.candidates (numbers_of (own_list s)) ≡ gate_test.accepted (length (own_list s)) (conditional_count (own_list s))
    bounded : length (own_list s) ≤ gate_bound s
    closing : (ballots : List ℕ) → AcceptedBallots s ballots
        → outputs_of s.candidates (wires_of ballots (own_list s)) ≡ closing_for s ballots

  graded_holds : is_ranking s ≡ false → Holds
  graded_holds e =
      let g = graded_kind s w e in
      let gs = own_grading s in
      record {
        takes = subst (λ (gs : List Gate). tested (ballot_bytes s) s.candidates (numbers_of gs)
            ≡ gate_test.accepted (length gs) (conditional_count gs)) (sym (own_graded s e))
            (good_list_accepted (ballot_bytes s) s.candidates gs (own s g).good (own s g).enough (own_list_short s g));
        bounded = subst (λ (gs : List Gate). length gs ≤ gate_bound s) (sym (own_graded s e))
            (subst (λ (n : ℕ). length gs ≤ n) (sym (bound_graded s e)) (own_list_keeps_the_bound s g));
        closing = λ ballots a.
            ap (λ (gs : List Gate). outputs_of s.candidates (wires_of ballots gs)) (own_graded s e)
            ∙ own_list_is_accurate s ballots (ballots_laws.graded s ballots a g)
            ∙ sym (closing_graded s ballots e);
      }

  ranked_holds : is_ranking s ≡ true → Holds
  ranked_holds e =
      let r : Ranked s = ranked s (ranked_kind s w e) in
      let gs = own_ranking s.candidates s.ballots in
      let h : OwnRankingHolds s.candidates s.ballots =
      own_ranking_holds s.candidates s.ballots r.k_least r.k_most r.n_least r.n_most in
      record {
        takes = subst (λ (gs : List Gate). tested (ballot_bytes s) s.candidates (numbers_of gs)
            ≡ gate_test.accepted (length gs) (conditional_count gs)) (sym (own_ranked s e))
            (subst (λ (i : ℕ). tested i s.candidates (numbers_of gs) ≡ gate_test.accepted (length gs) (conditional_count gs))
            (sym (ranked_bytes s e)) h.passes);
        bounded = subst (λ (gs : List Gate). length gs ≤ gate_bound s) (sym (own_ranked s e))
            (subst (λ (n : ℕ). length gs ≤ n) (sym (bound_ranked s e)) h.bounded);
        closing = λ ballots a.
            ap (λ (gs : List Gate). outputs_of s.candidates (wires_of ballots gs)) (own_ranked s e)
            ∙ h.closing ballots (a.size ∙ ranked_bytes s e) a.bits
            ∙ sym (closing_ranked s ballots e);
      }

  holds : Holds
  holds = either (is_ranking s) ranked_holds graded_holds

  own_passes : test_outcome s (numbers_of (own_list s)) ≡ accepted (size_of (own_list s))
  unfolding size_of
  own_passes = list_accepted s (numbers_of (own_list s)) w (length (own_list s)) (conditional_count (own_list s)) holds.takes

  pub own_list_holds : OwnListHolds s
  own_list_holds = record { passes = own_passes; bounded = holds.bounded; closing = holds.closing }

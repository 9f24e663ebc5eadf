-- The tests of one jury, over plain values: each test on its piece of the tables, and the first that fails decides.
-- Assumes nothing.
use Rattle.std.proofs.Common.{◌≡◌, ◌∙◌, sym, ap}
use Rattle.std.specs.Prelude.{Ok, Err}
use Rattle.std.proofs.Math.Option.{Option, none, some}
use Rattle.gates.specs.Gate.{gates_of}
use Rattle.gates.specs.declared.list.ListSize.{ListSize}
use Rattle.jury.specs.declared.shape.Shape.{Shape}
use Rattle.jury.specs.declared.reason.Refusal.{Refusal}
use Rattle.jury.specs.Shape.{ballot_bytes}
use Rattle.jury.specs.Reason.{Reason, reason_of, refused_for, first_of}
use Rattle.jury.specs.Ballots.{ballot_reasons}
use Rattle.tally.specs.Answer.{refused, outcome, size_of, size_in, outcome_of}
use Rattle.tally.specs.Test.{test_outcome}
use Rattle.tally.specs.Run.{buffer_reasons}
use Rattle.tally.proofs.TestReasons.{TestPassed, test_passed}
use Rattle.tally.proofs.RunReasons.{by_test, by_ballots, by_lent}
use Rattle.dispatch_rounds.specs.declared.header.JuryHeader.{JuryHeader}
use Rattle.dispatch_rounds.specs.Tables.{Tables, header_shape, list_of, pieces_of}
use Rattle.dispatch_rounds.specs.Reasons.{reasons_of}
use Rattle.dispatch.specs.inner.Rounds.{JuryTested}

module _ (h : JuryHeader) (t : Tables) where
  abbrev p : Tables
  p = pieces_of h t

  abbrev s : Shape
  s = header_shape h

  abbrev whole : Option Reason
  whole = first_of (reasons_of h t)

  refuses : (r : Reason) → whole ≡ some r → JuryTested h t (refused r)
  unfolding outcome
  refuses r e = sym (ap (λ (o : Option Reason). outcome o (size_of (gates_of (list_of h t)))) e)

  pub list_refused : (q : Refusal) → outcome_of (Err q) ≡ test_outcome s p.lists → JuryTested h t (outcome_of (Err q))
  unfolding outcome_of reasons_of
  list_refused q e = refuses (reason_of q) (by_test s p.lists p.ballots p.tapes p.wires p.boards (reason_of q) (sym e))

  module _ (found : ListSize) (e : outcome_of (Ok found) ≡ test_outcome s p.lists) where
    pub list_passed : TestPassed s p.lists (size_in found)
    unfolding outcome_of
    list_passed = test_passed s p.lists (size_in found) (sym e)

    pub ballots_refused : (q : Refusal) → refused_for (Err q) ≡ first_of (ballot_reasons s p.ballots) → JuryTested h t (outcome_of (Err q))
    unfolding outcome_of refused_for reasons_of
    ballots_refused q f =
        refuses (reason_of q) (by_ballots s p.lists p.ballots p.tapes p.wires p.boards list_passed.reasons (reason_of q) (sym f))

    module _ (b : first_of (ballot_reasons s p.ballots) ≡ none) where
      -- if the tests before have passed, the tests of the buffers decide
      buffers_decide : (o : Option Reason)
          → o ≡ first_of (buffer_reasons (ballot_bytes s) h.candidates (size_in found) p.tapes p.wires p.boards) → whole ≡ o
      unfolding reasons_of
      buffers_decide o f =
          by_lent s p.lists p.ballots p.tapes p.wires p.boards list_passed.reasons (size_in found) o list_passed.size b (sym f)

      pub buffers_refused : (q : Refusal)
          → refused_for (Err q) ≡ first_of (buffer_reasons (ballot_bytes s) h.candidates (size_in found) p.tapes p.wires p.boards)
          → JuryTested h t (outcome_of (Err q))
      unfolding outcome_of refused_for
      buffers_refused q f = refuses (reason_of q) (buffers_decide (some (reason_of q)) f)

      pub jury_accepts : none ≡ first_of (buffer_reasons (ballot_bytes s) h.candidates (size_in found) p.tapes p.wires p.boards)
          → JuryTested h t (outcome_of (Ok found))
      unfolding test_outcome pieces_of
      jury_accepts f =
          e ∙ ap (λ (o : Option Reason). outcome o (size_of (gates_of (list_of h t)))) (list_passed.reasons ∙ sym (buffers_decide none f))

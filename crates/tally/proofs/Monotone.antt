-- A better grade costs nobody the win in runs of the own list: the closing bytes are the rule's, and by the rule a
-- winner that is graded better still wins.
-- Assumes nothing.
use mathlib.Core.Path.{◌≡◌, ◌∙◌, refl, sym, ap}
use mathlib.Core.Bool.{true, false, true≢false}
use mathlib.Core.List.{List}
use Prim.Native.Nat.{ℕ, ◌<◌}
use lib.ListN.{get_or, take}
use Rattle.jury.specs.declared.shape.Shape.{Shape}
use Rattle.jury.specs.Accepted.{AcceptedBallots}
use Rattle.jury.specs.Shape.{is_ranking}
use Rattle.jury.proofs.Limits.{within, graded_is}
use Rattle.rule_judgment.specs.Raised.{RaisedOften, unchanged, once_more, byte_for}
use Rattle.rule_judgment.proofs.Raising.{liked_more}
use Rattle.tally.specs.Answer.{Size}
use Rattle.tally.specs.Count.{plain_closing}
use Rattle.tally.specs.Demands.{list_in, RunAccuracy}
use Rattle.tally.specs.Monotone.{TwoRuns, byte_in, MonotoneOnGates}
use Rattle.tally.proofs.RunReasons.{run_passed}
use Rattle.tally.proofs.Hiding.{ran_accepted}
use Rattle.tally.proofs.Rules.{closing_graded}
use Rattle.tally.proofs.PlainFacts.{plain_first}
use Rattle.tally.proofs.Demands.{three_demands}
use Rattle.basics.proofs.Flags.{either}

-- only grades can be raised, so the ballots of a ranking are the same before and after
unraised : (s : Shape) (candidate : ℕ) → is_ranking s ≡ true → {old new : List ℕ} → RaisedOften s candidate old new → old ≡ new
unraised s candidate e unchanged = refl
unraised s candidate e (once_more raises once) = absurd (true≢false (sym e ∙ graded_is s (within s once.old_accepted.within)))

module _ (s : Shape) (table : List ℕ) (size : Size) (old new : List ℕ) (r : TwoRuns s table size old new) where
  holds : RunAccuracy s table size
  holds = three_demands.accuracy s table size r.written

  -- ballots of an accepted run are accepted
  old_accepted : AcceptedBallots s old
  old_accepted = (run_passed s (list_in s size table) old r.before.tape r.before.wires r.before.board
      (ran_accepted s (list_in s size table) old r.before.wires r.before.board r.before.tape
      r.before.answer r.before.accepts).0).ballots_passed

  new_accepted : AcceptedBallots s new
  new_accepted = (run_passed s (list_in s size table) new r.after.tape r.after.wires r.after.board
      (ran_accepted s (list_in s size table) new r.after.wires r.after.board r.after.tape
      r.after.answer r.after.accepts).0).ballots_passed

  -- so the closing bytes are those of the plain count
  before_plain : (c : ℕ) → byte_in r.before c ≡ get_or (take s.candidates (plain_closing s old)) c 0
  before_plain c = ap (λ (bytes : List ℕ). get_or bytes c 0)
      (holds.plain old r.before.tape r.before.wires r.before.board r.before.answer
      r.before.accepts)

  after_plain : (c : ℕ) → byte_in r.after c ≡ get_or (take s.candidates (plain_closing s new)) c 0
  after_plain c = ap (λ (bytes : List ℕ). get_or bytes c 0)
      (holds.plain new r.after.tape r.after.wires r.after.board r.after.answer r.after.accepts)

  -- so the closing bytes of a ranking are the same before and after
  same_ballots : is_ranking s ≡ true → (candidate : ℕ) → RaisedOften s candidate old new → (c : ℕ)
      → byte_in r.after c ≡ byte_in r.before c
  same_ballots e candidate raises c =
      after_plain c ∙ ap (λ (xs : List ℕ). get_or (take s.candidates (plain_closing s xs)) c 0)
      (sym (unraised s candidate e raises)) ∙ sym (before_plain c)

  module _ (e : is_ranking s ≡ false) where
    pub before_is : (c : ℕ) → byte_in r.before c ≡ byte_for s old c
    before_is c = before_plain c ∙ ap (λ (bytes : List ℕ). get_or bytes c 0) (plain_first s old old_accepted ∙ closing_graded s old e)

    pub after_is : (c : ℕ) → byte_in r.after c ≡ byte_for s new c
    after_is c = after_plain c ∙ ap (λ (bytes : List ℕ). get_or bytes c 0) (plain_first s new new_accepted ∙ closing_graded s new e)

    graded_often : (candidate : ℕ) → RaisedOften s candidate old new → byte_in r.before candidate ≡ 1 → byte_in r.after candidate ≡ 1
    graded_often candidate raises one = after_is candidate
        ∙ (liked_more s candidate old new raises (sym (before_is candidate) ∙ one)).still_wins

    graded_alone : (candidate : ℕ) → RaisedOften s candidate old new → byte_in r.before candidate ≡ 1
        → (c : ℕ) → byte_in r.before c ≡ 0 → c < s.candidates → byte_in r.after c ≡ 0
    graded_alone candidate raises one c none h = after_is c
        ∙ (liked_more s candidate old new raises (sym (before_is candidate) ∙ one)).no_new_winner c h
        (sym (before_is c) ∙ none)

  often : (candidate : ℕ) → RaisedOften s candidate old new → byte_in r.before candidate ≡ 1 → byte_in r.after candidate ≡ 1
  often candidate raises one =
      either (is_ranking s) (λ e. same_ballots e candidate raises candidate ∙ one) (λ e. graded_often e candidate raises one)

  alone : (candidate : ℕ) → RaisedOften s candidate old new → byte_in r.before candidate ≡ 1
      → (c : ℕ) → byte_in r.before c ≡ 0 → c < s.candidates → byte_in r.after c ≡ 0
  alone candidate raises one c none h =
      either (is_ranking s) (λ e. same_ballots e candidate raises c ∙ none) (λ e. graded_alone e candidate raises one c none h)

pub monotone_on_gates : MonotoneOnGates
monotone_on_gates =
    record {
      raised = λ s table size old new r candidate once one. often s table size old new r candidate (once_more unchanged once) one;
      raised_often = often;
      still_alone = λ s table size old new r candidate raises one others c h other. alone s table size old new r
          candidate raises one c (others c h other) h;
    }

-- What writing and reading answer and leave, from the outcomes of their tests.
-- Assumes nothing.
use mathlib.Core.Path.{◌≡◌, ◌∙◌, refl, ap}
use mathlib.Core.Bool.{Bool, true, false, ◌&&◌}
use mathlib.Core.Option.{Option, none, some}
use mathlib.Core.List.{List, [], ◌∷◌, ◌++◌}
use Prim.Native.Nat.{ℕ, ◌*◌, ◌≤◌, ◌<◌}
use lib.Dec.{leb}
use lib.ListN.{length, drop}
use borrow.Author.Tests.{le-leb, lt-leb}
use Rattle.gates.specs.Gate.{gates_of, numbers_of}
use Rattle.gates.specs.Test.{first_bad}
use Rattle.std.specs.Prelude as rust
use Rattle.std.specs.Prelude.{Some, None}
use Rattle.jury.specs.declared.shape.Shape.{Shape}
use Rattle.jury.specs.Shape.{within_limits, ballot_bytes}
use Rattle.jury.specs.Reason.{Reason, reason_at, unless, found_at, first_of}
use Rattle.tally.specs.Answer.{Outcome, refused, accepted, outcome, size_of, overwritten}
use Rattle.tally.specs.Test.{test_reasons, test_outcome}
use Rattle.tally.proofs.TestReasons.{or_else, first_append}
use Rattle.tally.proofs.RunReasons.{outcome_refused}
use Rattle.text.specs.Answer.{TextResult}
use Rattle.text.specs.Text.{text_of, lines_of, first_malformed, gates_in}
use Rattle.text.specs.Write.{text_reasons, text_outcome, text_written}
use Rattle.text.specs.Read.{read_reasons, read_outcome, numbers_read}

-- two results are equal if their two parts are
pub same_text : {answer answer' : Outcome ℕ} {output output' : List ℕ} → (answer ≡ answer') × (output ≡ output')
    → ◌≡◌ {A = TextResult} (record { answer = answer; output = output }) (record { answer = answer'; output = output' })
same_text {answer} {answer'} {output} {output'} e =
    ap (λ (z : Outcome ℕ). record { answer = z; output = output }) e.0
    ∙ ap (λ (z : List ℕ). record { answer = answer'; output = z }) e.1

module _ (s : Shape) (table output : List ℕ) where
  -- the first reason of writing, from the test of the list and the room in the output
  text_by : (o : Option Reason) (t : Bool) → first_of (test_reasons s table) ≡ o → leb (length (text_of (gates_of table))) (length output) ≡ t
      → first_of (text_reasons s table output) ≡ or_else o (first_of (unless t 24 ∷ []))
  unfolding text_reasons
  text_by o t e f =
      first_append (test_reasons s table) (unless (leb (length (text_of (gates_of table))) (length output)) 24 ∷ [])
      ∙ ap (λ (x : Option Reason). or_else x (first_of (unless (leb (length (text_of (gates_of table))) (length output)) 24 ∷ []))) e
      ∙ ap (λ (x : Bool). or_else o (first_of (unless x 24 ∷ []))) f

  pub text_of_list : (r : Reason) → test_outcome s table ≡ refused r → first_of (text_reasons s table output) ≡ some r
  unfolding test_outcome or_else
  text_of_list r e = text_by (some r) _ (outcome_refused (first_of (test_reasons s table)) (size_of (gates_of table)) r e) refl

  pub text_short : first_of (test_reasons s table) ≡ none → length output < length (text_of (gates_of table))
      → first_of (text_reasons s table output) ≡ some (reason_at 24 0)
  unfolding or_else unless first_of
  text_short e h = text_by none false e (lt-leb (length (text_of (gates_of table))) (length output) h)

  pub text_good : first_of (test_reasons s table) ≡ none → length (text_of (gates_of table)) ≤ length output
      → first_of (text_reasons s table output) ≡ none
  unfolding or_else unless first_of
  text_good e h = text_by none true e (le-leb (length (text_of (gates_of table))) (length output) h)

  -- what a refused and an accepted call leave
  pub text_refused : (r : Reason) → first_of (text_reasons s table output) ≡ some r
      → (refused r ≡ text_outcome s table output) × (output ≡ text_written s table output)
  unfolding text_outcome text_written outcome overwritten
  text_refused r e = (rw e, rw e)

  pub text_accepted : first_of (text_reasons s table output) ≡ none
      → (accepted (length (text_of (gates_of table))) ≡ text_outcome s table output)
      × (text_of (gates_of table) ++ drop (length (text_of (gates_of table))) output ≡ text_written s table output)
  unfolding text_outcome text_written outcome overwritten
  text_accepted e = (rw e, rw e)

module _ (s : Shape) (text output : List ℕ) where
  -- the first reason of reading, from the outcomes of the tests
  found : Bool → Bool → Bool → rust.Option ℕ → rust.Option ℕ → Bool → Option Reason
  found w k m p q o = first_of (unless w 1 ∷ unless (k && m) 2 ∷ found_at 23 p ∷ found_at 3 q ∷ unless o 24 ∷ [])

  module _ (w k m : Bool) (p q : rust.Option ℕ) (o : Bool) where
    read_by : within_limits s ≡ w → leb s.candidates (length (lines_of text)) ≡ k
        → leb (length (lines_of text)) 1048576 ≡ m → first_malformed 0 (lines_of text) ≡ p
        → first_bad (ballot_bytes s) 0 (gates_in (lines_of text)) ≡ q → leb (4 * length (lines_of text)) (length output)
        ≡ o → first_of (read_reasons s text output) ≡ found w k m p q o
    unfolding read_reasons found
    read_by a b c d e f = rw (a, b, c, d, e, f)

  pub shape_outside : within_limits s ≡ false → first_of (read_reasons s text output) ≡ some (reason_at 1 0)
  unfolding found unless first_of
  shape_outside a = read_by false _ _ _ _ _ a refl refl refl refl refl

  module _ (a : within_limits s ≡ true) where
    pub too_few : length (lines_of text) < s.candidates → first_of (read_reasons s text output) ≡ some (reason_at 2 0)
    unfolding found unless first_of
    too_few h = read_by true false _ _ _ _ a (lt-leb s.candidates (length (lines_of text)) h) refl refl refl refl

    module _ (b : s.candidates ≤ length (lines_of text)) where
      pub too_many : 1048576 < length (lines_of text) → first_of (read_reasons s text output) ≡ some (reason_at 2 0)
      unfolding found unless first_of
      too_many h = read_by true true false _ _ _ a (le-leb s.candidates (length (lines_of text)) b)
          (lt-leb (length (lines_of text)) 1048576 h) refl refl refl

      module _ (c : length (lines_of text) ≤ 1048576) where
        pub other_line : (i : ℕ) → first_malformed 0 (lines_of text) ≡ Some i → first_of (read_reasons s text output) ≡ some (reason_at 23 i)
        unfolding found unless found_at first_of
        other_line i d = read_by true true true (Some i) _ _ a (le-leb s.candidates (length (lines_of text)) b)
            (le-leb (length (lines_of text)) 1048576 c) d refl refl

        module _ (d : first_malformed 0 (lines_of text) ≡ None) where
          pub bad_gate : (g : ℕ) → first_bad (ballot_bytes s) 0 (gates_in (lines_of text)) ≡ Some g
              → first_of (read_reasons s text output) ≡ some (reason_at 3 g)
          unfolding found unless found_at first_of
          bad_gate g e = read_by true true true None (Some g) _ a
              (le-leb s.candidates (length (lines_of text)) b) (le-leb (length (lines_of text)) 1048576 c) d e refl

          module _ (e : first_bad (ballot_bytes s) 0 (gates_in (lines_of text)) ≡ None) where
            pub numbers_short : length output < 4 * length (lines_of text) → first_of (read_reasons s text output) ≡ some (reason_at 24 0)
            unfolding found unless found_at first_of
            numbers_short h = read_by true true true None None false a
                (le-leb s.candidates (length (lines_of text)) b) (le-leb (length (lines_of text)) 1048576 c) d e
                (lt-leb (4 * length (lines_of text)) (length output) h)

            pub numbers_good : 4 * length (lines_of text) ≤ length output → first_of (read_reasons s text output) ≡ none
            unfolding found unless found_at first_of
            numbers_good h = read_by true true true None None true a
                (le-leb s.candidates (length (lines_of text)) b) (le-leb (length (lines_of text)) 1048576 c) d e
                (le-leb (4 * length (lines_of text)) (length output) h)

  pub read_refused : (r : Reason) → first_of (read_reasons s text output) ≡ some r
      → (refused r ≡ read_outcome s text output) × (output ≡ numbers_read s text output)
  unfolding read_outcome numbers_read outcome overwritten
  read_refused r e = (rw e, rw e)

  pub read_accepted : first_of (read_reasons s text output) ≡ none
      → (accepted (4 * length (lines_of text)) ≡ read_outcome s text output)
      × (numbers_of (gates_in (lines_of text)) ++ drop (length (numbers_of (gates_in (lines_of text)))) output
      ≡ numbers_read s text output)
  unfolding read_outcome numbers_read outcome overwritten
  read_accepted e = (rw e, rw e)

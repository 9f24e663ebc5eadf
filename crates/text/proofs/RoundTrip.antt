-- Writing and reading undo each other.
-- Assumes nothing.
use mathlib.Core.Path.{◌≡◌, ◌∙◌, refl, sym, ap, subst}
use mathlib.Core.Bool.{Bool, true, false, ◌&&◌}
use mathlib.Core.Option.{Option, none, some}
use mathlib.Core.List.{List, [], ◌∷◌, ◌++◌}
use Prim.Native.Nat.{ℕ, ◌*◌, ◌≤◌}
use native.Mathlib.Nat.{add-zero}
use native.Mathlib.Omega.{arith}
use lib.Dec.{leb}
use lib.ListN.{length, take, drop, length-append, length-drop}
use lib.Seq.{take_at}
use borrow.Author.Tests.{leb-true}
use Rattle.gates.specs.Gate.{gates_of, numbers_of}
use Rattle.gates.specs.Board.{conditional_count}
use Rattle.gates.specs.Test.{first_bad}
use Rattle.std.specs.Prelude as rust
use Rattle.std.specs.Prelude.{Some, None}
use Rattle.gates.proofs.Laws.{AllGood, all_good, read_whole, length_numbers}
use Rattle.gates.proofs.Accepting.{good_list_accepted}
use Rattle.gates.proofs.Evaluating.{accepted_list}
use Rattle.gates.proofs.Reading.{whole_table}
use Rattle.jury.specs.declared.shape.Shape.{Shape}
use Rattle.jury.specs.Shape.{most_ballots, most_candidates, within_limits, ballot_bytes}
use Rattle.jury.specs.Reason.{Reason, unless, found_at, first_of}
use Rattle.jury.proofs.Limits.{bounds, inputs_bound}
use Rattle.tally.specs.Answer.{accepted, outcome, size_of}
use Rattle.tally.specs.Test.{test_reasons, test_outcome}
use Rattle.tally.proofs.TestReasons.{or_else, first_append, test_passed, test_passed_back}
use Rattle.tally.specs.Memory.{Each}
use Rattle.tally.proofs.RunReasons.{outcome_refused, accepted_values}
use Rattle.text.proofs.Numbering.{text_number, read_number}
use Rattle.text.specs.Text.{text_of, lines_of, first_malformed, gates_in}
use Rattle.text.specs.Write.{text_reasons, text_outcome, text_written}
use Rattle.text.specs.Read.{read_reasons, read_outcome, numbers_read}
use Rattle.text.specs.RoundTrip.{RoundTrip}
use Rattle.text.specs.Demands.{TextMemory}
use Rattle.text.proofs.Reasons.{text_good, text_refused, text_accepted, numbers_good, read_refused, read_accepted}
use Rattle.text.proofs.Whole.{gates_many, text_is, all_writable, text_lines}

impossible : {P : Type 0} (r : Reason) → some r ≡ none → P
impossible r e = let z : ◌≡◌ {A = ℕ} 0 1 = cc in absurd (omega arith)

-- what holds if writing is accepted
test_none : (s : Shape) (table output : List ℕ) → first_of (text_reasons s table output) ≡ none → first_of (test_reasons s table) ≡ none
unfolding text_reasons or_else
test_none s table output e = by (first_of (test_reasons s table))
    (sym (first_append (test_reasons s table)
    (unless (leb (length (text_of (gates_of table))) (length output)) 24 ∷ [])) ∙ e)
  where
    by : (o : Option Reason) → or_else o (first_of (unless (leb (length (text_of (gates_of table))) (length output)) 24 ∷ [])) ≡ none → o ≡ none
    by none e = refl
    by (some r) e = impossible r e

test_accepted : (s : Shape) (table : List ℕ) → first_of (test_reasons s table) ≡ none → test_outcome s table
    ≡ accepted (size_of (gates_of table))
unfolding test_outcome outcome
test_accepted s table e = rw e

-- what holds if reading is accepted
record ReadPassed (s : Shape) (text output : List ℕ) : Type 0 where
  limits : within_limits s ≡ true
  enough : s.candidates ≤ length (lines_of text)
  few : length (lines_of text) ≤ 1048576
  all_gates : first_malformed 0 (lines_of text) ≡ None
  good : first_bad (ballot_bytes s) 0 (gates_in (lines_of text)) ≡ None

read_passed : (s : Shape) (text output : List ℕ) → first_of (read_reasons s text output) ≡ none → ReadPassed s text output
unfolding read_reasons first_of unless found_at
read_passed s text output e =
    by (within_limits s) (leb s.candidates (length (lines_of text))) (leb (length (lines_of text)) 1048576)
    (first_malformed 0 (lines_of text)) (first_bad (ballot_bytes s) 0 (gates_in (lines_of text))) refl refl refl refl refl e
  where
    room : Option Reason
    room = unless (leb (4 * length (lines_of text)) (length output)) 24

    by : (w k m : Bool) (p q : rust.Option ℕ) → within_limits s ≡ w → leb s.candidates (length (lines_of text)) ≡ k
        → leb (length (lines_of text)) 1048576 ≡ m → first_malformed 0 (lines_of text) ≡ p
        → first_bad (ballot_bytes s) 0 (gates_in (lines_of text)) ≡ q
        → first_of (unless w 1 ∷ unless (k && m) 2 ∷ found_at 23 p ∷ found_at 3 q ∷ room ∷ []) ≡ none
        → ReadPassed s text output
    by true true true None None a b c d f e =
        record {
          limits = a;
          enough = leb-true s.candidates (length (lines_of text)) b;
          few =
              leb-true (length (lines_of text)) 1048576 c;
          all_gates = d;
          good = f;
        }
    by true true true None (Some g) a b c d f e = impossible _ e
    by true true true (Some i) q a b c d f e = impossible _ e
    by true true false p q a b c d f e = impossible _ e
    by true false m p q a b c d f e = impossible _ e
    by false k m p q a b c d f e = impossible _ e

back : (s : Shape) (table output numbers : List ℕ) (n : ℕ) → text_outcome s table output ≡ accepted n → length table ≤ length numbers
    → (read_outcome s (take n (text_written s table output)) numbers ≡ accepted (length table))
    × (numbers_read s (take n (text_written s table output)) numbers ≡ table ++ drop (length table) numbers)
unfolding text_outcome
back s table output numbers n e room =
    let gs = gates_of table in
    let text = text_of gs in
    let p = accepted_values (first_of (text_reasons s table output)) (length text) n e in
    let t = test_passed s table (size_of gs) (test_accepted s table (test_none s table output p.0)) in
    let f = accepted_list (ballot_bytes s) s.candidates table _ _ t.tests in
    let bound : ballot_bytes s ≤ most_ballots * most_candidates * most_candidates = inputs_bound s (bounds s t.within) in
    let good = subst (λ (m : ℕ). AllGood m gs) (add-zero (ballot_bytes s)) (all_good (ballot_bytes s) 0 gs f.good) in
    let l = text_lines gs (all_writable (ballot_bytes s) gs (omega (arith, f.few)) good) in
    let whole : numbers_of gs ≡ table = whole_table table f.whole in
    let long : 4 * length (lines_of text) ≡ length table = omega (arith, l.as_many, ap length whole, length_numbers gs) in
    let written : take n (text_written s table output) ≡ text =
    ap (take n) (sym (text_accepted s table output p.0).1)
    ∙ take_at text (drop (length text) output) n p.1 in
    let none_applies = numbers_good s text numbers t.within (omega (arith, f.enough, l.as_many))
    (omega (arith, f.few, l.as_many)) (l.all_gates 0)
    (ap (first_bad (ballot_bytes s) 0) l.read_back ∙ f.good) (omega arith) in
    let r = read_accepted s text numbers none_applies in
    let same : numbers_of (gates_in (lines_of text)) ≡ table = ap numbers_of l.read_back ∙ whole in (
      ap (λ (x : List ℕ). read_outcome s x numbers) written ∙ sym r.0 ∙ ap (λ (k : ℕ). accepted k) long,
      ap (λ (x : List ℕ). numbers_read s x numbers) written ∙ sym r.1 ∙ ap (λ (x : List ℕ). x ++ drop (length x) numbers) same,
    )

forth : (s : Shape) (text numbers output : List ℕ) (n : ℕ) → read_outcome s text numbers ≡ accepted n → length text ≤ length output
    → (text_outcome s (take n (numbers_read s text numbers)) output ≡ accepted (length text))
    × (text_written s (take n (numbers_read s text numbers)) output ≡ text ++ drop (length text) output)
unfolding read_outcome
forth s text numbers output n e room =
    let gs = gates_in (lines_of text) in
    let ns = numbers_of gs in
    let p = accepted_values (first_of (read_reasons s text numbers)) (4 * length (lines_of text)) n e in
    let f = read_passed s text numbers p.0 in
    let many = gates_many (lines_of text) 0 f.all_gates in
    let long : length ns ≡ n = omega (arith, length_numbers gs, many, p.1) in
    let read : take n (numbers_read s text numbers) ≡ ns = ap (take n) (sym (read_accepted s text numbers p.0).1)
    ∙ take_at ns (drop (length ns) numbers) n long in
    let good = subst (λ (m : ℕ). AllGood m gs) (add-zero (ballot_bytes s)) (all_good (ballot_bytes s) 0 gs f.good) in
    let ok = good_list_accepted (ballot_bytes s) s.candidates gs good (omega (arith, f.enough, many)) (omega (arith, f.few, many)) in
    let passes = test_passed_back s ns f.limits (length gs) (conditional_count gs) ok in
    let same : text_of (gates_of ns) ≡ text = ap text_of (read_whole gs) ∙ sym (text_is text f.all_gates) in
    let w = text_accepted s ns output (text_good s ns output passes (omega (arith, ap length same))) in (
      ap (λ (x : List ℕ). text_outcome s x output) read ∙ sym w.0 ∙ ap (λ (x : List ℕ). accepted (length x)) same,
      ap (λ (x : List ℕ). text_written s x output) read ∙ sym w.1 ∙ ap (λ (x : List ℕ). x ++ drop (length x) output) same,
    )

pub round_trip : RoundTrip
round_trip = record { back = back; forth = forth }

-- an output keeps its length
same_length : (new output : List ℕ) → length new ≤ length output → length (new ++ drop (length new) output) ≡ length output
same_length new output h = omega (arith, length-append new (drop (length new) output), length-drop (length new) output)

text_length : (s : Shape) (table output : List ℕ) → length (text_written s table output) ≡ length output
unfolding text_reasons or_else first_of unless
text_length s table output = by (first_of (text_reasons s table output)) refl
  where
    fits : (o : Option Reason) (t : Bool) → leb (length (text_of (gates_of table))) (length output) ≡ t
        → or_else o (first_of (unless t 24 ∷ [])) ≡ none → length (text_of (gates_of table)) ≤ length output
    fits none true p e = leb-true (length (text_of (gates_of table))) (length output) p
    fits none false p e = impossible _ e
    fits (some r) t p e = impossible r e

    by : (o : Option Reason) → first_of (text_reasons s table output) ≡ o → length (text_written s table output) ≡ length output
    by none e =
        ap length (sym (text_accepted s table output e).1)
        ∙ same_length (text_of (gates_of table)) output
        (fits (first_of (test_reasons s table)) (leb (length (text_of (gates_of table))) (length output)) refl
        (sym (first_append (test_reasons s table)
        (unless (leb (length (text_of (gates_of table))) (length output)) 24 ∷ [])) ∙ e))
    by (some r) e = ap length (sym (text_refused s table output r e).1)

read_room : (s : Shape) (text output : List ℕ) → first_of (read_reasons s text output) ≡ none → 4 * length (lines_of text) ≤ length output
unfolding read_reasons first_of unless found_at
read_room s text output e =
    by (within_limits s) (leb s.candidates (length (lines_of text)) && leb (length (lines_of text)) 1048576)
    (first_malformed 0 (lines_of text)) (first_bad (ballot_bytes s) 0 (gates_in (lines_of text)))
    (leb (4 * length (lines_of text)) (length output)) refl e
  where
    by : (w k : Bool) (p q : rust.Option ℕ) (t : Bool) → leb (4 * length (lines_of text)) (length output) ≡ t
        → first_of (unless w 1 ∷ unless k 2 ∷ found_at 23 p ∷ found_at 3 q ∷ unless t 24 ∷ []) ≡ none → 4
        * length (lines_of text) ≤ length output
    by true true None None true f e = leb-true (4 * length (lines_of text)) (length output) f
    by true true None None false f e = impossible _ e
    by true true None (Some g) t f e = impossible _ e
    by true true (Some i) q t f e = impossible _ e
    by true false p q t f e = impossible _ e
    by false k p q t f e = impossible _ e

read_length : (s : Shape) (text output : List ℕ) → length (numbers_read s text output) ≡ length output
read_length s text output = by (first_of (read_reasons s text output)) refl
  where
    by : (o : Option Reason) → first_of (read_reasons s text output) ≡ o → length (numbers_read s text output) ≡ length output
    by none e =
        let f = read_passed s text output e in
        let many = gates_many (lines_of text) 0 f.all_gates in
        ap length (sym (read_accepted s text output e).1)
        ∙ same_length (numbers_of (gates_in (lines_of text))) output
        (omega (arith, length_numbers (gates_in (lines_of text)), many, read_room s text output e))
    by (some r) e = ap length (sym (read_refused s text output r e).1)

pub text_memory : TextMemory
unfolding text_outcome read_outcome Each
text_memory =
    record {
      write = λ s table output. record {
        number = text_number s table output;
        refusal = λ r e. (
          sym (text_refused s table output r
              (outcome_refused (first_of (text_reasons s table output)) (length (text_of (gates_of table))) r e)).1,
          tt,
        );
        empties = λ length e. tt;
        lengths = (text_length s table output, tt);
      };
      read = λ s text output. record {
        number = read_number s text output;
        refusal = λ r e. (
          sym (read_refused s text output r
              (outcome_refused (first_of (read_reasons s text output)) (4 * length (lines_of text)) r e)).1,
          tt,
        );
        empties = λ length e. tt;
        lengths = (read_length s text output, tt);
      };
      writes_its_length = λ s table output n e.
          let p = accepted_values (first_of (text_reasons s table output)) (length (text_of (gates_of table))) n e in
          (p.1, sym (text_accepted s table output p.0).1 ∙ ap (λ (m : ℕ). text_of (gates_of table) ++ drop m output) p.1);
      reads_its_length = λ s text output n e.
          let p = accepted_values (first_of (read_reasons s text output)) (4 * length (lines_of text)) n e in
          let ns = numbers_of (gates_in (lines_of text)) in
          let many = gates_many (lines_of text) 0 (read_passed s text output p.0).all_gates in
          let long : length ns ≡ n = omega (arith, length_numbers (gates_in (lines_of text)), many, p.1) in
          (long, sym (read_accepted s text output p.0).1 ∙ ap (λ (m : ℕ). ns ++ drop m output) long);
    }

-- The gates of a table are judged one after another.
-- Assumes nothing.
use Rattle.std.specs.Prelude.{Option, Some, Result, Err}
use mathlib.Core.Path.{◌≡◌, ◌∙◌, sym, ap}
use mathlib.Core.Bool.{Bool, true, false, cond}
use mathlib.Core.List.{List, []}
use Prim.Native.Nat.{ℕ, suc, ◌+◌, ◌≤◌, ◌<◌}
use native.Mathlib.Omega.{arith}
use lib.ListN.{length, drop, drop_of_length-le}
use Rattle.gates.specs.Open.Kind.{conditional_of}
use Rattle.gates.specs.Open.Gate.{Gate, gates_of, gate_at}
use Rattle.gates.specs.Open.Board.{conditional_count}
use Rattle.gates.specs.Open.Test.{good_gate, first_bad, judged}
use Rattle.gates.specs.declared.list.ListSize.{ListSize}
use Rattle.gates.specs.declared.list.ListFault.{ListFault}
use Rattle.gates.specs.declared.list.ListFault.TheVariants.{BadGate}
use Rattle.gates.specs.Open.Test.{accepted}
use Rattle.gates.proofs.Table.{gates_from}
use Rattle.gates.proofs.Counting.{count_cons, count_nil}

-- judging the gates from g on, with the conditional gates before them counted, gives the answer for the whole table
abbrev pub Judges : ℕ → List ℕ → ℕ → ℕ → Result ListSize ListFault → Type 0
Judges inputs t g conditional r =
    judged (first_bad inputs g (drop g (gates_of t))) (length (gates_of t)) (conditional + conditional_count (drop g (gates_of t))) ≡ r

bad_step : (inputs : ℕ) (t : List ℕ) (g : ℕ) (ok : Bool) → g < length (gates_of t) → ok ≡ good_gate (inputs + g) (gate_at t g)
    → first_bad inputs g (drop g (gates_of t)) ≡ cond ok (first_bad inputs (suc g) (drop (suc g) (gates_of t))) (Some g)
unfolding first_bad
bad_step inputs t g ok h e = rw (gates_from t g, e)

-- a bad gate is the answer
pub judges_bad : (inputs : ℕ) (t : List ℕ) (g conditional : ℕ) (r : Result ListSize ListFault) → g < length (gates_of t) → false
    ≡ good_gate (inputs + g) (gate_at t g)
    → Judges inputs t g conditional r → Err (BadGate g) ≡ r
unfolding judged
judges_bad inputs t g conditional r h e j =
    sym (ap (λ (p : Option ℕ). judged p (length (gates_of t)) (conditional + conditional_count (drop g (gates_of t))))
    (bad_step inputs t g false h e)) ∙ j

-- after a good gate the rest decides
pub judges_good : (inputs : ℕ) (t : List ℕ) (g conditional mark : ℕ) (r : Result ListSize ListFault) → g < length (gates_of t) → true
    ≡ good_gate (inputs + g) (gate_at t g)
    → mark ≡ cond (conditional_of (gate_at t g).kind) 1 0 → Judges inputs t g conditional r → Judges inputs t (suc g) (conditional + mark) r
judges_good inputs t g conditional mark r h e m j =
    let n : conditional_count (drop g (gates_of t)) ≡ cond (conditional_of (gate_at t g).kind) 1 0
    + conditional_count (drop (suc g) (gates_of t)) =
    ap conditional_count (gates_from t g h) ∙ count_cons (gate_at t g) (drop (suc g) (gates_of t)) in
    let s : conditional + mark + conditional_count (drop (suc g) (gates_of t)) ≡ conditional
    + conditional_count (drop g (gates_of t)) = omega arith in
    ap (judged (first_bad inputs (suc g) (drop (suc g) (gates_of t))) (length (gates_of t))) s
    ∙ sym (ap (λ (p : Option ℕ). judged p (length (gates_of t)) (conditional + conditional_count (drop g (gates_of t))))
    (bad_step inputs t g true h e)) ∙ j

-- past the last gate the list is accepted
pub judges_all : (inputs : ℕ) (t : List ℕ) (g conditional gates : ℕ) (r : Result ListSize ListFault) → gates ≡ length (gates_of t)
    → gates ≤ g → Judges inputs t g conditional r → accepted gates conditional ≡ r
unfolding judged first_bad
judges_all inputs t g conditional gates r e h j =
    let d : drop g (gates_of t) ≡ [] = drop_of_length-le (gates_of t) {i = g} (omega arith) in
    let n : conditional ≡ conditional + conditional_count (drop g (gates_of t)) = omega (arith, ap conditional_count d, count_nil) in
    ap (λ (x : ℕ). accepted x conditional) e
    ∙ ap (accepted (length (gates_of t))) n
    ∙ sym (ap (λ (l : List Gate). judged (first_bad inputs g l) (length (gates_of t))
    (conditional + conditional_count (drop g (gates_of t)))) d) ∙ j

-- The sizes of a list that has passed its test, and of one trustee's tables.
-- Assumes nothing.
use mathlib.Core.Path.{◌≡◌, ◌∙◌, refl, ap}
use mathlib.Core.Bool.{Bool, true, false, cond, ◌&&◌}
use mathlib.Core.List.{List, ◌++◌}
use Prim.Native.Nat.{ℕ, zero, suc, ◌+◌, ◌*◌}
use native.Mathlib.Nat.{zero-add, suc-add}
use native.Mathlib.Omega.{arith}
use lib.Dec.{eqb}
use lib.ListN.{length, drop, replicate}
use borrow.Author.Tests.{eqb-true}
use Rattle.gates.specs.Gate.{Gate, gates_of}
use Rattle.gates.specs.Board.{conditional_count}
use Rattle.gates.proofs.Counting.{count_most}
use Rattle.gate_levels.specs.Levels.{levels_of, rounds_of}
use Rattle.std.specs.Prelude.{Some, None}
use Rattle.gate_levels.specs.Compared.{compared}
use Rattle.gate_levels.proofs.Laws.{length_levels}
use Rattle.jury.specs.declared.shape.Shape.{Shape}
use Rattle.jury.specs.Shape.{ballot_bytes}
use Rattle.basics.proofs.Flags.{and_first, and_second}
use Rattle.jury.proofs.Limits.{bounds, inputs_bound}
use Rattle.tally.specs.Answer.{size_of}
use Rattle.levels.proofs.Reasons.{ListFacts}
use Rattle.trustees.specs.inner.Sizes.{SmallSizes}
use Rattle.trustee_rounds.specs.Rounds.{start_wires, start_published}
use Rattle.trustee_alone.specs.Own.{own_tables_fit}
use Rattle.basics.specs.Lists.{same_numbers}
use Rattle.basics.proofs.Same.{same_true}
use Rattle.trustee_alone.specs.inner.Ready.{TablesReady}

pub tables_ready : (s : Shape) (table : List ℕ) (gates conditional : ℕ) → ListFacts s table gates conditional
    → TablesReady (ballot_bytes s) s.candidates gates conditional table
tables_ready s table gates conditional f =
    let w = bounds s f.within in
    record {
      some_input = f.some_input;
      inputs_most = omega (arith, inputs_bound s w);
      outputs_most = w.k_most;
      few = f.few;
      good = f.good;
      gates_are = f.gates_are;
      conditional_are = f.conditional_are;
    }

pub small_sizes : (inputs k gates conditional : ℕ) (table : List ℕ) → TablesReady inputs k gates conditional table
    → SmallSizes inputs k gates conditional
small_sizes inputs k gates conditional table r =
    record {
      inputs_most = r.inputs_most;
      outputs_most = r.outputs_most;
      gates_most = omega (arith, r.few, r.gates_are);
      conditional_most = omega (arith, r.few, r.conditional_are, count_most (gates_of table));
    }

pub size_is : (g c : ℕ) (table : List ℕ) → g ≡ length (gates_of table) → c ≡ conditional_count (gates_of table)
    → record { gates = g; conditional = c } ≡ size_of (gates_of table)
unfolding size_of
size_is g c table e f = ap (λ (n : ℕ). record { gates = n; conditional = c }) e
    ∙ ap (λ (n : ℕ). record { gates = length (gates_of table); conditional = n }) f

-- the three tables have the right lengths
pub record Fit (inputs k : ℕ) (gs : List Gate) (triples wire_parts published : List ℕ) : Type 0 where
  pub triples_length : length triples ≡ 3 * conditional_count gs
  pub wires_length : length wire_parts ≡ inputs + length gs
  pub published_length : length published ≡ 2 * conditional_count gs + k

pub fit : (inputs k : ℕ) (gs : List Gate) (triples wire_parts published : List ℕ)
    → own_tables_fit inputs k (size_of gs) triples wire_parts published ≡ true → Fit inputs k gs triples wire_parts published
unfolding own_tables_fit size_of
fit inputs k gs triples wire_parts published e =
    let a = eqb (length triples) (3 * conditional_count gs) in
    let b = eqb (length wire_parts) (inputs + length gs) in
    let c = eqb (length published) (2 * conditional_count gs + k) in
    let two = and_first (a && b) c e in
    record {
      triples_length = eqb-true (length triples) (3 * conditional_count gs) (and_first a b two);
      wires_length = eqb-true (length wire_parts) (inputs + length gs) (and_second a b two);
      published_length = eqb-true (length published) (2 * conditional_count gs + k) (and_second (a && b) c e);
    }

-- what the comparison of levels says
pub own_same : (inputs : ℕ) (gs : List Gate) (levels : List ℕ) (rounds : ℕ) → compared inputs gs levels ≡ Some rounds
    → (same_numbers levels (levels_of inputs gs) ≡ true) × (rounds ≡ rounds_of inputs gs)
unfolding compared
own_same inputs gs levels rounds e = go (same_numbers levels (levels_of inputs gs)) refl e
  where
    go : (b : Bool) → same_numbers levels (levels_of inputs gs) ≡ b → cond b (Some (rounds_of inputs gs)) None
        ≡ Some rounds → (same_numbers levels (levels_of inputs gs) ≡ true) × (rounds ≡ rounds_of inputs gs)
    go true f e = (f, cc)
    go false f e = let z : ◌≡◌ {A = ℕ} 0 1 = cc in absurd (omega arith)

pub other_same : (inputs : ℕ) (gs : List Gate) (levels : List ℕ) → compared inputs gs levels ≡ None
    → same_numbers levels (levels_of inputs gs) ≡ false
unfolding compared
other_same inputs gs levels e = go (same_numbers levels (levels_of inputs gs)) refl e
  where
    go : (b : Bool) → same_numbers levels (levels_of inputs gs) ≡ b → cond b (Some (rounds_of inputs gs)) None ≡ None
        → same_numbers levels (levels_of inputs gs) ≡ false
    go true f e = let z : ◌≡◌ {A = ℕ} 0 1 = cc in absurd (omega arith)
    go false f e = f

pub other_long : (inputs : ℕ) (gs : List Gate) (levels : List ℕ) → (length levels ≡ length gs → ⊥)
    → same_numbers levels (levels_of inputs gs) ≡ false
other_long inputs gs levels h = go (same_numbers levels (levels_of inputs gs)) refl
  where
    go : (b : Bool) → same_numbers levels (levels_of inputs gs) ≡ b → same_numbers levels (levels_of inputs gs) ≡ false
    go true f = absurd (h (ap length (same_true levels (levels_of inputs gs) f) ∙ length_levels inputs gs))
    go false f = f

-- the tables after the start
drop_zeros : (m n : ℕ) → drop m (replicate {A = ℕ} (m + n) 0) ≡ replicate {A = ℕ} n 0
drop_zeros zero n = ap (λ (k : ℕ). replicate {A = ℕ} k 0) (zero-add n)
drop_zeros (suc m) n = ap (λ (k : ℕ). drop (suc m) (replicate {A = ℕ} k 0)) (suc-add m n) ∙ drop_zeros m n

pub started : (parts wire_parts : List ℕ) (inputs gates : ℕ) → length parts ≡ inputs → length wire_parts ≡ inputs + gates
    → parts ++ drop (length parts) (replicate {A = ℕ} (length wire_parts) 0) ≡ start_wires gates parts
unfolding start_wires
started parts wire_parts inputs gates e f =
    let n : length wire_parts ≡ length parts + gates = omega arith in
    ap (λ (k : ℕ). parts ++ drop (length parts) (replicate {A = ℕ} k 0)) n
    ∙ ap (λ (l : List ℕ). parts ++ l) (drop_zeros (length parts) gates)

pub started_published_lem : (published : List ℕ) (conditional k : ℕ) → length published ≡ 2 * conditional + k
    → replicate {A = ℕ} (length published) 0 ≡ start_published conditional k
unfolding start_published
started_published_lem published conditional k e = ap (λ (n : ℕ). replicate {A = ℕ} n 0) e

-- A list of good gates is accepted if it is neither too short nor too long. Also what the test answers for a table
-- that ends in part of a gate, or has too many gates.
-- Assumes nothing.
use Rattle.std.specs.Prelude.{None, Err}
use mathlib.Core.Path.{◌≡◌, ◌∙◌, refl, sym, ap, subst}
use mathlib.Core.Bool.{true, false}
use mathlib.Core.List.{List}
use Prim.Native.Nat.{ℕ, zero, suc, ◌/◌, ◌%◌, ◌≤◌, ◌<◌, ◌*◌}
use native.Mathlib.Nat.{add-zero}
use native.Mathlib.Omega.{arith}
use lib.Dec.{eqb}
use lib.ListN.{length, replicate, length-replicate}
use borrow.Author.Tests.{eq-eqb, eqb-true, le-ltb, lt-ltb}
use Rattle.gates.specs.Open.Kind.{operands_of, conditional_of}
use Rattle.gates.specs.Open.Gate.{Gate, gates_of, numbers_of}
use Rattle.gates.specs.Open.Board.{conditionals, conditional_count}
use Rattle.gates.specs.Open.Test.{most_gates, first_bad, judged, tested}
use Rattle.gates.specs.declared.list.ListFault.TheVariants.{PartOfAGate, TooManyGates}
use Rattle.gates.specs.Open.Test.{accepted}
use Rattle.gates.proofs.Laws.{AllGood, good_none, none_bad, length_numbers, read_whole}

pub good_list_accepted : (inputs k : ℕ) (gs : List Gate) → AllGood inputs gs → k ≤ length gs → length gs ≤ 1048576
    → tested inputs k (numbers_of gs) ≡ accepted (length gs) (conditional_count gs)
unfolding tested judged
good_list_accepted inputs k gs good enough few =
    let n = length_numbers gs in
    let ns = numbers_of gs in
    let found : first_bad inputs 0 (gates_of ns) ≡ None = ap (first_bad inputs 0) (read_whole gs)
    ∙ none_bad inputs 0 gs (subst (λ (m : ℕ). AllGood m gs) (sym (add-zero inputs)) good) in
    rw (
      eq-eqb (length ns % 4) 0 (omega arith),
      le-ltb (length ns / 4) k (omega arith),
      le-ltb 1048576 (length ns / 4) (omega arith),
      found,
      read_whole gs,
    )

-- a list of n gates that make 0
pub zeros : ℕ → List Gate
zeros n = replicate n (record { kind = 0; a = 0; b = 0; c = 0 })

pub zeros_good : (own n : ℕ) → AllGood own (zeros n)
unfolding zeros operands_of
zeros_good own zero = tt
zeros_good own (suc n) = (good_none own 0 (omega arith) refl, zeros_good (suc own) n)

pub zeros_free : (n : ℕ) → conditional_count (zeros n) ≡ 0
unfolding zeros conditional_count conditionals conditional_of
zeros_free zero = refl
zeros_free (suc n) = zeros_free n

pub zeros_length : (n : ℕ) → length (zeros n) ≡ n
unfolding zeros
zeros_length n = length-replicate n _

-- a table that ends in part of a gate
pub part_of_a_gate : (inputs k : ℕ) (table : List ℕ) → eqb (length table % 4) 0 ≡ false → tested inputs k table ≡ (Err PartOfAGate)
unfolding tested
part_of_a_gate inputs k table e = rw e

-- a list of too many gates
pub too_many : (inputs k : ℕ) (table : List ℕ) → eqb (length table % 4) 0 ≡ true → k ≤ most_gates → 4 * most_gates < length table
    → tested inputs k table ≡ (Err TooManyGates)
unfolding tested
too_many inputs k table e few long =
    let whole = eqb-true (length table % 4) 0 e in
    rw (e, le-ltb (length table / 4) k (omega arith), lt-ltb most_gates (length table / 4) (omega arith))

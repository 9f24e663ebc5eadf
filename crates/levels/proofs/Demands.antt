-- Proofs of what holds for the call [levels].
-- Assumes nothing.
use mathlib.Core.Path.{◌≡◌, ◌∙◌, refl, sym, ap, subst}
use mathlib.Core.Bool.{Bool, cond}
use mathlib.Core.Option.{Option, none, some}
use mathlib.Core.List.{List, [], ◌∷◌}
use Prim.Native.Nat.{ℕ, zero, suc, ◌+◌, ◌≤◌, ◌<◌}
use native.Mathlib.Nat.{add-zero}
use native.Mathlib.Omega.{arith}
use lib.Dec.{T}
use lib.ListN.{length, get_or, drop}
use Rattle.basics.specs.Lists.{all, member}
use Rattle.gates.specs.Kind.{conditional_of}
use Rattle.gates.specs.Gate.{Gate, gates_of, gate_at}
use Rattle.gates.proofs.Table.{gates_from}
use Rattle.gates.proofs.Laws.{AllGood, all_good}
use Rattle.gate_levels.specs.Levels.{wire_level, gate_level, levels_of, rounds_of}
use Rattle.gate_levels.proofs.Laws.{length_levels, Leveled, levels_leveled, OperandLevels, operand_levels, maximum_most, rounds_most}
use Rattle.jury.specs.declared.shape.Shape.{Shape}
use Rattle.jury.specs.Shape.{ballot_bytes}
use Rattle.jury.specs.Reason.{Reason, reason_at, first_of}
use Rattle.tally.specs.Answer.{refused, accepted, outcome, has_number_in, size_of}
use Rattle.tally.specs.Memory.{Each}
use Rattle.tally.specs.Test.{test_reasons, test_reason_numbers, test_outcome}
use Rattle.tally.proofs.TestReasons.{test_passed}
use Rattle.levels.specs.Answer.{Depths, depths_of}
use Rattle.levels.specs.Levels.{levels_reasons, levels_reason_numbers, levels_outcome, levels_written, LevelsResult}
use Rattle.levels.specs.Demands.{LevelsMemory, OperandBelow, Depth, LevelsHold}
use Rattle.tally.proofs.RunReasons.{outcome_refused, accepted_values}
use Rattle.levels.proofs.Reasons.{ListFacts, list_facts, both_passed, call_refused, call_accepted}
use Rattle.tally.proofs.Numbering.{All, refused_number, both, unless_fine, wider, test_all}

pub levels_number : (s : Shape) (table levels : List ℕ) (r : Reason) → levels_outcome s table levels ≡ refused r
    → T (has_number_in levels_reason_numbers r)
unfolding levels_outcome levels_reasons All all member reason_at
levels_number s table levels =
    let ns = levels_reason_numbers in
    refused_number ns (levels_reasons s table levels) (depths_of (ballot_bytes s) (gates_of table))
    (both ns (test_reasons s table) _ (wider test_reason_numbers ns tt (test_reasons s table) (test_all s table)) (unless_fine ns _ 200 tt, tt))

-- the reasons, from the answer
refused_by : (s : Shape) (table levels : List ℕ) (r : Reason) → levels_outcome s table levels ≡ refused r
    → first_of (levels_reasons s table levels) ≡ some r
unfolding levels_outcome
refused_by s table levels r e = outcome_refused (first_of (levels_reasons s table levels)) (depths_of (ballot_bytes s) (gates_of table)) r e

accepted_by : (s : Shape) (table levels : List ℕ) (depths : Depths) → levels_outcome s table levels ≡ accepted depths
    → (first_of (levels_reasons s table levels) ≡ none) × (depths_of (ballot_bytes s) (gates_of table) ≡ depths)
unfolding levels_outcome
accepted_by s table levels depths e =
    accepted_values (first_of (levels_reasons s table levels)) (depths_of (ballot_bytes s) (gates_of table)) depths e

written_length : (s : Shape) (table levels : List ℕ) → length (levels_written s table levels) ≡ length levels
written_length s table levels = go (first_of (levels_reasons s table levels)) refl
  where
    go : (o : Option Reason) → first_of (levels_reasons s table levels) ≡ o → length (levels_written s table levels) ≡ length levels
    go (some r) e = ap (λ (q : LevelsResult). length q.levels) (sym (call_refused s table levels r e))
    go none e = ap (λ (q : LevelsResult). length q.levels) (sym (call_accepted s table levels e))
        ∙ length_levels (ballot_bytes s) (gates_of table) ∙ sym (both_passed s table levels e).1

pub memory : LevelsMemory
unfolding Each
memory s table levels =
    record {
      number = levels_number s table levels;
      refusal = λ r e. (ap (λ (q : LevelsResult). q.levels) (sym (call_refused s table levels r (refused_by s table levels r e))), tt);
      empties = λ values e. tt;
      lengths = (written_length s table levels, tt);
    }

-- the level of gate g is computed from the levels of its operands
level_at : (inputs : ℕ) (ls : List ℕ) (n : ℕ) (gs : List Gate) → Leveled inputs ls n gs
    → (g : ℕ) (x : Gate) (rest : List Gate) → drop g gs ≡ x ∷ rest → get_or ls (n + g) 0 ≡ gate_level inputs ls x
level_at inputs ls n [] l zero x rest e = let z : ◌≡◌ {A = ℕ} 0 1 = cc in absurd (omega arith)
level_at inputs ls n [] l (suc g) x rest e = let z : ◌≡◌ {A = ℕ} 0 1 = cc in absurd (omega arith)
level_at inputs ls n (y ∷ gs) l zero x rest e =
    let same : y ≡ x = cc in
    ap (λ (m : ℕ). get_or ls m 0) (add-zero n) ∙ l.0 ∙ ap (gate_level inputs ls) same
level_at inputs ls n (y ∷ gs) l (suc g) x rest e =
    let m : n + suc g ≡ suc n + g = omega arith in
    ap (λ (i : ℕ). get_or ls i 0) m ∙ level_at inputs ls (suc n) gs l.1 g x rest e

module _ (s : Shape) (table levels : List ℕ) (depths : Depths) (e : levels_outcome s table levels ≡ accepted depths) where
  inputs : ℕ
  inputs = ballot_bytes s

  is_none : first_of (levels_reasons s table levels) ≡ none
  is_none = (accepted_by s table levels depths e).0

  own : depths ≡ depths_of (ballot_bytes s) (gates_of table)
  own = sym (accepted_by s table levels depths e).1

  written : levels_written s table levels ≡ levels_of (ballot_bytes s) (gates_of table)
  written = ap (λ (q : LevelsResult). q.levels) (sym (call_accepted s table levels is_none))

  facts : ListFacts s table (length (gates_of table)) (size_of (gates_of table)).conditional
  unfolding size_of
  facts = list_facts s table _ _
      (test_passed s table (size_of (gates_of table))
      (unfold test_outcome in ap (λ (o : Option Reason). outcome o (size_of (gates_of table)))
      (both_passed s table levels is_none).0 ∙ accepts))
    where
      accepts : outcome none (size_of (gates_of table)) ≡ accepted (size_of (gates_of table))
      accepts = unfold outcome in refl

  leveled : Leveled (ballot_bytes s) (levels_written s table levels) 0 (gates_of table)
  leveled =
      subst (λ (ls : List ℕ). Leveled (ballot_bytes s) ls 0 (gates_of table)) (sym written)
      (levels_leveled (ballot_bytes s) (gates_of table) facts.some_input
      (subst (λ (n : ℕ). AllGood n (gates_of table)) (add-zero (ballot_bytes s))
      (all_good (ballot_bytes s) 0 (gates_of table) facts.good)))

  gates_own : depths.gates ≡ length (gates_of table)
  unfolding depths_of
  gates_own = ap (λ (d : Depths). d.gates) own

  at : (g : ℕ) → g < depths.gates → get_or (levels_written s table levels) g 0
      ≡ gate_level (ballot_bytes s) (levels_written s table levels) (gate_at table g)
  at g h =
      let i : g ≡ 0 + g = omega arith in
      ap (λ (n : ℕ). get_or (levels_written s table levels) n 0) i
      ∙ level_at (ballot_bytes s) (levels_written s table levels) 0 (gates_of table) leveled g (gate_at table g)
      (drop (suc g) (gates_of table)) (gates_from table g (omega (arith, gates_own)))

  -- the level of an operand is below the gate's, as `OperandBelow` says
  operand : (g x : ℕ) → g < depths.gates → wire_level (ballot_bytes s) (levels_written s table levels) x
      + cond (conditional_of (gate_at table g).kind) 1 0
      ≤ gate_level (ballot_bytes s) (levels_written s table levels) (gate_at table g) → OperandBelow s table levels g x
  operand g x h b =
      let l = at g h in
      record {
        most = omega arith;
        below = λ is. let m : cond {A = ℕ} (conditional_of (gate_at table g).kind) 1 0 ≡ 1 =
            ap (λ (c : Bool). cond {A = ℕ} c 1 0) is in omega arith;
      }

  pub depth : Depth s table levels depths
  unfolding depths_of
  depth =
      let bounds : (g : ℕ) → OperandLevels (ballot_bytes s) (levels_written s table levels) (gate_at table g) =
      λ g. operand_levels (ballot_bytes s) (levels_written s table levels) (gate_at table g) in
      record {
        own = own;
        few = omega (
          arith,
          ap (λ (d : Depths). d.rounds) own,
          ap (λ (d : Depths). d.conditional) own,
          rounds_most (ballot_bytes s) (gates_of table),
        );
        level = λ g. omega (arith, ap (λ (d : Depths). d.rounds) own, ap (λ (l : List ℕ). get_or l g 0) written, most g);
        a_operand = λ g h. operand g (gate_at table g).a h (bounds g).a_level;
        b_operand = λ g h. operand g (gate_at table g).b h (bounds g).b_level;
        c_operand = λ g h. operand g (gate_at table g).c h (bounds g).c_level;
      }
    where
      most : (g : ℕ) → get_or (levels_of (ballot_bytes s) (gates_of table)) g 0 ≤ rounds_of (ballot_bytes s) (gates_of table)
      most g = unfold rounds_of in maximum_most (levels_of (ballot_bytes s) (gates_of table)) g

pub levels_hold : LevelsHold
levels_hold = record { memory = memory; depth = depth }

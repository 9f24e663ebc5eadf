-- A row whose running sums grow has the same sequence or an earlier one; so a winner still wins, and a sole winner
-- stays the sole winner.
-- Assumes nothing.
use mathlib.Core.Path.{◌≡◌, ◌∙◌, refl, sym, subst, subst₂}
use mathlib.Core.Bool.{true, false, true≢false}
use mathlib.Core.Logic.{◌⊎◌, ⊎_elim, ◌≢◌}
use mathlib.Core.List.{List, []}
use Prim.Native.Nat.{ℕ, suc, ◌≤◌, ◌<◌}
use native.Mathlib.Omega.{arith}
use lib.ListN.{length, get_or}
use Rattle.basics.specs.Lists.{sum}
use Rattle.basics.proofs.Cases.{same_or_not}
use Rattle.basics.proofs.Flags.{never_true}
use Rattle.rule_judgment.specs.Judgment.{sequence_of, precedes, judgment_of}
use Rattle.rule_judgment.proofs.Statements.{running}
use Rattle.rule_judgment.proofs.Positions.{grade_at, grade_at_lem, grade_below}
use Rattle.rule_judgment.proofs.Outward.{position, position_within}
use Rattle.rule_judgment.proofs.Order.{Compared, compared, precedes_trans, precedes_self, never_worse}
use Rattle.rule_judgment.proofs.Order.Compared.{first, equal, second}
use Rattle.rule_judgment.proofs.SumRule.{struck_grade, outward_of}
use Rattle.rule_judgment.proofs.Winners.{Unpreceded, byte_one, byte_zero, one_byte}

-- `better` has as many grades as `row`, and for each t at least as many among the t best
pub record Improved (row better : List ℕ) : Type 0 where
  pub sums : sum better ≡ sum row
  pub more : (t : ℕ) → running row t ≤ running better t

module _ (row better : List ℕ) (up : Improved row better) where
  -- no position has a worse grade
  pub grade_no_worse : (p : ℕ) → 0 < p → p ≤ sum row → grade_at better p ≤ grade_at row p
  grade_no_worse p z l =
      let g = grade_at_lem row p z l in
      let b = grade_below better p z (omega (arith, up.sums)) (suc (grade_at row p))
      (omega (arith, g.reached, up.more (suc (grade_at row p)))) in
      omega arith

  -- the better row's sequence comes earlier, or is the same
  pub sequence_no_later : (precedes (sequence_of better) (sequence_of row) ≡ true) ⊎ (sequence_of better ≡ sequence_of row)
  sequence_no_later =
      subst₂ (λ (xs ys : List ℕ). (precedes xs ys ≡ true) ⊎ (xs ≡ ys))
      (sym (outward_of (sum row) better up.sums)) (sym (outward_of (sum row) row refl))
      (never_worse (sum row) (struck_grade (sum row) better) (struck_grade (sum row) row)
      (λ m z l. let w = position_within (sum row) m z l in grade_no_worse (position (sum row) m) w.0 w.1))

  -- whatever precedes the better row precedes the old one
  still_precedes : (xs : List ℕ) → precedes xs (sequence_of better) ≡ true → precedes xs (sequence_of row) ≡ true
  still_precedes xs p =
      ⊎_elim (λ q. precedes_trans xs (sequence_of better) (sequence_of row) p q)
      (λ e. subst (λ (ys : List ℕ). precedes xs ys ≡ true) e p) sequence_no_later

  -- whatever the old row precedes, the better one precedes too
  precedes_still : (xs : List ℕ) → precedes (sequence_of row) xs ≡ true → precedes (sequence_of better) xs ≡ true
  precedes_still xs p =
      ⊎_elim (λ q. precedes_trans (sequence_of better) (sequence_of row) xs q p)
      (λ e. subst (λ (ys : List ℕ). precedes ys xs ≡ true) (sym e) p) sequence_no_later

-- two matrices of counts that differ only in row i, which is better in the second
pub record OneImproved (old new : List (List ℕ)) (i : ℕ) : Type 0 where
  pub size : length new ≡ length old
  pub candidate : i < length old
  pub better : Improved (get_or old i []) (get_or new i [])
  pub others : (j : ℕ) → j < length old → j ≢ i → get_or new j [] ≡ get_or old j []

module _ (old new : List (List ℕ)) (i : ℕ) (up : OneImproved old new i) (wins : get_or (judgment_of old) i 0 ≡ 1) where
  abbrev sequence_in : List (List ℕ) → ℕ → List ℕ
  sequence_in rows j = sequence_of (get_or rows j [])

  -- no other row precedes the winner's row now, since it would have done so before
  preceded_before : (j : ℕ) → j < length old → j ≢ i → precedes (sequence_in new j) (sequence_in new i) ≡ true → ⊥
  preceded_before j l ne p =
      true≢false
      (sym (still_precedes (get_or old i []) (get_or new i []) up.better (sequence_in old j)
      (subst (λ (row : List ℕ). precedes (sequence_of row) (sequence_in new i) ≡ true) (up.others j l ne) p))
      ∙ one_byte old i up.candidate wins j l)

  pub still_wins : get_or (judgment_of new) i 0 ≡ 1
  still_wins = byte_one new i (omega (arith, up.size, up.candidate))
      (λ j l. ⊎_elim (λ e. same j e)
      (λ ne. never_true (precedes (sequence_in new j) (sequence_in new i))
      (preceded_before j (omega (arith, up.size)) ne)) (same_or_not j i))
    where
      same : (j : ℕ) → j ≡ i → precedes (sequence_in new j) (sequence_in new i) ≡ false
      same j e = rw e (never_true (precedes (sequence_in new i) (sequence_in new i)) (precedes_self (sequence_in new i)))

  -- a candidate that did not win has a later sequence than a winner
  loser_later : (j : ℕ) → j < length old → get_or (judgment_of old) j 0 ≡ 0 → precedes (sequence_in old i) (sequence_in old j) ≡ true
  loser_later j l loses = go (compared (sequence_in old i) (sequence_in old j))
    where
      unpreceded : Unpreceded old i
      unpreceded = one_byte old i up.candidate wins

      go : Compared (sequence_in old i) (sequence_in old j) → precedes (sequence_in old i) (sequence_in old j) ≡ true
      go (first p) = p
      go (equal e) =
          let one = byte_one old j l (λ m k. subst (λ (xs : List ℕ). precedes (sequence_in old m) xs ≡ false) e (unpreceded m k)) in
          absurd (omega arith)
      go (second p) = absurd (true≢false (sym p ∙ unpreceded j l))

  -- a candidate that did not win before does not win now
  pub still_loses : (j : ℕ) → j < length old → j ≢ i → get_or (judgment_of old) j 0 ≡ 0 → get_or (judgment_of new) j 0 ≡ 0
  still_loses j l ne loses =
      byte_zero new j (omega (arith, up.size)) i (omega (arith, up.size, up.candidate))
      (subst (λ (row : List ℕ). precedes (sequence_in new i) (sequence_of row) ≡ true) (sym (up.others j l ne))
      (precedes_still (get_or old i []) (get_or new i []) up.better (sequence_in old j) (loser_later j l loses)))

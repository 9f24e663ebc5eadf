-- Good ballots of juries of one, joined together, are good ballots of a jury with that many jurors.
-- Assumes nothing.
use mathlib.Core.Path.{◌≡◌, ◌∙◌, sym, ap, subst}
use mathlib.Core.Logic.{⊎_elim}
use mathlib.Core.Bool.{Bool, true, true≢false}
use mathlib.Core.List.{List, [], ◌∷◌, ◌++◌, map}
use Prim.Native.Nat.{ℕ, zero, suc, ◌+◌, ◌*◌, ◌-◌, ◌≤◌, ◌<◌}
use native.Mathlib.Nat.{zero-mul, suc-mul, add-mul, mul_assoc, mul-le-mul_right}
use native.Mathlib.Omega.{arith}
use lib.Dec.{eqb}
use lib.ListN.{length, get_or, take, drop, length-append, length-drop, get_or-append}
use lib.Seq.{take-append-le, drop-append-le, drop-append-add, get_or-append-add}
use Rattle.jury.specs.declared.shape.Shape.{Shape}
use Rattle.jury.specs.Shape.{graded_limits}
use Rattle.jury.specs.Reason.{first_of}
use Rattle.jury.specs.Ballots.{ones, ballot_reasons}
use Rattle.jury.specs.Accepted.{AcceptedBallots}
use Rattle.basics.proofs.Flags.{and_second}
use Rattle.jury.proofs.Limits.{within, graded_within, graded_is, bytes_are}
use Rattle.jury.proofs.AcceptedLaws as ballots_laws
use Rattle.urn_chains.specs.Slots.{Slot, slot_at}
use Rattle.urn_chains.specs.Chains.{entry_at}
use Rattle.urn_chains.proofs.GoodBallots.{no_reason_lem}
use Rattle.basics.specs.Lists.{all}
use Rattle.urn_chains.specs.Sound.{jury_of_one, no_reason, good_ballot}
use Rattle.urn_chains.proofs.Lists.{all_first, all_rest}
use Rattle.basics.proofs.Cases.{below_or_not}
use Rattle.urn_run.specs.Run.{joined_ballots}

-- The bytes are m good ballots for k candidates and d grades.
pub record Good (k d m : ℕ) (xs : List ℕ) : Type 0 where
  pub size : length xs ≡ m * (k * d)
  pub bits : (i : ℕ) → get_or xs i 0 ≤ 1
  pub rows : (r : ℕ) → r < m * k → ones (take d (drop (r * d) xs)) ≡ 1

-- the empty list is 0 good ballots
pub good_none : (k d : ℕ) → Good k d 0 []
good_none k d =
    record {
      size = sym (zero-mul (k * d));
      bits = λ i. nothing i;
      rows = λ r h. absurd (omega (arith, zero-mul k));
    }
  where
    nothing : (i : ℕ) → get_or {A = ℕ} [] i 0 ≤ 1
    nothing zero = omega arith
    nothing (suc i) = omega arith

-- good ballots joined with good ballots
module _ (k d m n : ℕ) (xs ys : List ℕ) (g : Good k d m xs) (h : Good k d n ys) where
  both_bits : (i : ℕ) → get_or (xs ++ ys) i 0 ≤ 1
  both_bits i =
      ⊎_elim
      (λ l. let e = get_or-append xs ys 0 i l in omega (arith, g.bits i))
      (λ l. let e = ap (λ (j : ℕ). get_or (xs ++ ys) j 0) {x = i} {y = length xs + (i - length xs)} (omega arith)
      ∙ get_or-append-add xs ys (i - length xs) 0 in omega (arith, h.bits (i - length xs)))
      (below_or_not i (length xs))

  first_row : (r : ℕ) → r < m * k → ones (take d (drop (r * d) (xs ++ ys))) ≡ 1
  first_row r l =
      let w : suc r * d ≤ m * k * d = mul-le-mul_right d l in
      let fits : r * d + d ≤ length xs = omega (arith, suc-mul r d, mul_assoc m k d, g.size) in
      let long : d ≤ length (drop (r * d) xs) = omega (arith, length-drop (r * d) xs) in
      ap (λ (zs : List ℕ). ones (take d zs)) (drop-append-le (r * d) xs ys (omega arith))
      ∙ ap ones (take-append-le d (drop (r * d) xs) ys long)
      ∙ g.rows r l

  later_row : (r : ℕ) → r < n * k → ones (take d (drop ((m * k + r) * d) (xs ++ ys))) ≡ 1
  later_row r l =
      let e : (m * k + r) * d ≡ length xs + r * d = omega (arith, add-mul (m * k) r d, mul_assoc m k d, g.size) in
      ap (λ (j : ℕ). ones (take d (drop j (xs ++ ys)))) e
      ∙ ap (λ (zs : List ℕ). ones (take d zs)) (drop-append-add xs ys (r * d))
      ∙ h.rows r l

  both_rows : (r : ℕ) → r < (m + n) * k → ones (take d (drop (r * d) (xs ++ ys))) ≡ 1
  both_rows r l =
      ⊎_elim
      (λ u. first_row r u)
      (λ u. ap (λ (j : ℕ). ones (take d (drop (j * d) (xs ++ ys)))) {x = r} {y = m * k + (r - m * k)} (omega arith)
      ∙ later_row (r - m * k) (omega (arith, add-mul m n k)))
      (below_or_not r (m * k))

  pub good_both : Good k d (m + n) (xs ++ ys)
  good_both =
      record {
        size = omega (arith, length-append xs ys, g.size, h.size, add-mul m n (k * d));
        bits = both_bits;
        rows = both_rows;
      }

-- a good ballot of a jury of one
pub good_one : (k d : ℕ) (x : List ℕ) → graded_limits (jury_of_one k d) ≡ true → good_ballot k d x ≡ true → Good k d 1 x
unfolding good_ballot jury_of_one
good_one k d x w e =
    let o = first_of (ballot_reasons (jury_of_one k d) x) in
    let a = ballots_laws.accepted (jury_of_one k d) x (graded_within (jury_of_one k d) w)
    (no_reason_lem o (and_second (eqb (length x) (k * d)) (no_reason o) e)) in
    let b = ballots_laws.graded (jury_of_one k d) x a w in
    record {
      size = b.size ∙ bytes_are (jury_of_one k d) (within (jury_of_one k d) w) ∙ mul_assoc 1 k d;
      bits = b.bits;
      rows = b.rows;
    }

-- the joined ballots of these slots are good
pub good_along : (k d : ℕ) (S : List Slot) (is : List ℕ) → graded_limits (jury_of_one k d) ≡ true
    → all (λ i. good_ballot k d (slot_at S i).ballot) is ≡ true
    → Good k d (length is) (joined_ballots (map (entry_at S) is))
unfolding joined_ballots entry_at
good_along k d S [] w e = good_none k d
good_along k d S (i ∷ is) w e =
    let p : ℕ → Bool = λ j. good_ballot k d (slot_at S j).ballot in
    let x = (slot_at S i).ballot in
    let rest = joined_ballots (map (entry_at S) is) in
    subst (λ (m : ℕ). Good k d m (x ++ rest)) {x = 1 + length is} {y = suc (length is)} (omega arith)
    (good_both k d 1 (length is) x rest (good_one k d x w (all_first p i is e)) (good_along k d S is w (all_rest p i is e)))

-- n good ballots are accepted
pub good_accepted : (s : Shape) (xs : List ℕ) → graded_limits s ≡ true
    → Good s.candidates s.grades s.ballots xs → AcceptedBallots s xs
good_accepted s xs w g =
    record {
      within = graded_within s w;
      size = g.size ∙ sym (mul_assoc s.ballots s.candidates s.grades) ∙ sym (bytes_are s (within s w));
      bits = g.bits;
      rows = λ e. g.rows;
      orders = λ e. absurd (true≢false (sym e ∙ graded_is s (within s w)));
    }

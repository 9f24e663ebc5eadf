-- The first jury with a fault: the lowest bit that is set in the word of faults.
-- Assumes nothing.
use Rattle.std.specs.Prelude.{Option, Some, None}
use mathlib.Core.Path.{◌≡◌, ◌∙◌, refl, sym, ap}
use mathlib.Core.Bool.{Bool, cond}
use Prim.Native.Nat.{ℕ, zero, suc, ◌/◌, ◌%◌, ◌≤◌, ◌<◌}
use native.Mathlib.Omega.{arith}
use lib.Count.{count_trailing_zeros, under}
use lib.Dec.{eqb}
use borrow.Author.Tests.{eq-eqb, ne_eqb}
use Rattle.jury.specs.Rankings.{first_over, or_else}
use Rattle.jury.proofs.Searches.{first_here, first_none}
use Rattle.batch_lanes.specs.Lane.{lane_count, lane}
use Rattle.batch_lanes.proofs.LaneLaws.{lane_first, lane_next}
use Rattle.batch.specs.Ballots.{in_jury}
use Rattle.batch.specs.inner.Found.{found_bit, first_set}

-- the lowest set bit of a word comes after its trailing zeros
pub zeros_below : (m w j : ℕ) → j < count_trailing_zeros m w → lane j w ≡ 0
unfolding count_trailing_zeros
zeros_below zero w j h = absurd (omega arith)
zeros_below (suc m) w j h = go (w % 2) refl (λ i. zeros_below m (w / 2) i) j h
  where
    go : (r : ℕ) → w % 2 ≡ r → ((i : ℕ) → i < count_trailing_zeros m (w / 2) → lane i (w / 2) ≡ 0) → (j : ℕ) → j
        < under r (count_trailing_zeros m (w / 2)) → lane j w ≡ 0
    go zero e rest zero h = lane_first w ∙ e
    go zero e rest (suc j) h = lane_next j w ∙ rest j (omega arith)
    go (suc r) e rest j h = absurd (omega arith)

pub one_there : (m w : ℕ) → count_trailing_zeros m w < m → lane (count_trailing_zeros m w) w ≡ 1
unfolding count_trailing_zeros
one_there zero w h = absurd (omega arith)
one_there (suc m) w h = go (w % 2) refl (one_there m (w / 2)) h
  where
    go : (r : ℕ) → w % 2 ≡ r → (count_trailing_zeros m (w / 2) < m → lane (count_trailing_zeros m (w / 2)) (w / 2) ≡ 1)
        → under r (count_trailing_zeros m (w / 2)) < suc m
        → lane (under r (count_trailing_zeros m (w / 2))) w ≡ 1
    go zero e rest h = lane_next (count_trailing_zeros m (w / 2)) w ∙ rest (omega arith)
    go (suc r) e rest h = lane_first w ∙ omega arith

-- the search whether lane j is set
set_in : ℕ → ℕ → Option ℕ
set_in w j = cond (eqb (lane j w) 1) (Some j) None

not_set : (w j : ℕ) → lane j w ≡ 0 → set_in w j ≡ None
unfolding set_in
not_set w j e = ap (λ (t : Bool). cond t (Some j) None) (ne_eqb (lane j w) 1 (λ f. omega arith))

is_set : (w j : ℕ) → lane j w ≡ 1 → set_in w j ≡ Some j
unfolding set_in
is_set w j e = ap (λ (t : Bool). cond t (Some j) None) (eq-eqb (lane j w) 1 e)

pub first_at : (w : ℕ) → count_trailing_zeros 64 w < 64 → Some (count_trailing_zeros 64 w) ≡ first_set w
unfolding first_set set_in
first_at w h =
    sym (first_here (set_in w) 64 (count_trailing_zeros 64 w) (count_trailing_zeros 64 w) h
    (first_none (set_in w) (count_trailing_zeros 64 w) (λ j l. not_set w j (zeros_below 64 w j l)))
    (is_set w (count_trailing_zeros 64 w) (one_there 64 w h)))

pub first_nowhere : (w : ℕ) → 64 ≤ count_trailing_zeros 64 w → None ≡ first_set w
unfolding first_set set_in
first_nowhere w h = sym (first_none (set_in w) 64 (λ j l. not_set w j (zeros_below 64 w j (omega arith))))

-- searches that agree below m find the same
pub first_same : (m : ℕ) (f g : ℕ → Option ℕ) → ((j : ℕ) → j < m → f j ≡ g j) → first_over m f ≡ first_over m g
unfolding first_over
first_same zero f g e = refl
first_same (suc m) f g e =
    ap (λ (p : Option ℕ). or_else p (f m)) (first_same m f g (λ j h. e j (omega arith))) ∙ ap (or_else (first_over m g)) (e m (omega arith))

-- if a word marks the juries in which a search finds something, its lowest set bit is the first of them
pub first_by_bits : (w : ℕ) (found : ℕ → Option ℕ) → ((j : ℕ) → j < lane_count → lane j w ≡ found_bit (found j))
    → first_set w ≡ first_over lane_count (λ j. in_jury j (found j))
unfolding first_set
first_by_bits w found e = first_same 64 (λ j. cond (eqb (lane j w) 1) (Some j) None) (λ j. in_jury j (found j))
    (λ j h. by j (found j) (e j h))
  where
    by : (j : ℕ) (p : Option ℕ) → lane j w ≡ found_bit p → cond (eqb (lane j w) 1) (Some j) None ≡ in_jury j p
    by j p e = ap (λ (x : ℕ). cond (eqb x 1) (Some j) None) e ∙ at p
      where
        at : (p : Option ℕ) → cond (eqb (found_bit p) 1) (Some j) None ≡ in_jury j p
        at (Some place) = unfold found_bit in_jury in refl
        at None = unfold found_bit in_jury in refl

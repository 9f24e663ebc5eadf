-- The tests of ranked ballots on words: a word that collects the findings of each turn says for each lane whether
-- anything was found.
-- Assumes nothing.
use Rattle.std.specs.Prelude.{Option, Some, None}
use mathlib.Core.Path.{◌≡◌, ◌∙◌, refl, sym, ap, ap₂}
use mathlib.Core.Bool.{Bool, true, false, cond, not, ◌&&◌, ◌||◌}
use mathlib.Core.List.{List}
use Prim.Native.Nat.{ℕ, zero, suc, ◌+◌, ◌*◌, ◌%◌, ◌≤◌, ◌<◌, min, max}
use native.Mathlib.Numerals.{add-one}
use native.Mathlib.Omega.{arith}
use lib.Bits.{bit_and, bit_or, bit_xor}
use lib.Dec.{eqb}
use lib.ListN.{get_or}
use Rattle.jury.specs.Rankings.{rank_place, before, or_else, first_over, not_asymmetric_at}
use Rattle.basics.specs.Below.{some_below}
use Rattle.batch_lanes.specs.Lane.{lane_count, lane, lane_of}
use Rattle.batch_lanes.proofs.LaneLaws.{lane_bit, lane_none, lane_all, lane_and, lane_or, lane_xor}
use Rattle.batch_lanes.proofs.ListLaws.{lanes_at}
use Rattle.batch.specs.inner.Found.{found_bit}

-- a test as a bit
abbrev pub bit : Bool → ℕ
bit t = cond {A = ℕ} t 1 0

-- the test whether a byte is 1, as the lane of its word
bit_test : (x : ℕ) → x ≤ 1 → x ≡ bit (eqb x 1)
bit_test zero h = refl
bit_test (suc zero) h = refl
bit_test (suc (suc x)) h = absurd (omega arith)

byte_lane : (u : ℕ) (words : List ℕ) (p : ℕ) → lane u (get_or words p 0) ≡ bit (eqb (get_or (lane_of u words) p 0) 1)
byte_lane u words p = bit_test (lane u (get_or words p 0)) (lane_bit u (get_or words p 0))
    ∙ ap (λ (x : ℕ). bit (eqb x 1)) (sym (lanes_at u words p))

-- the smaller of two bits stands for both tests
min_and : (s t : Bool) → min (bit s) (bit t) ≡ bit (s && t)
min_and true true = refl
min_and true false = refl
min_and false true = refl
min_and false false = refl

pub both_lane : (u v w : ℕ) (s t : Bool) → lane u v ≡ bit s → lane u w ≡ bit t → lane u (bit_and v w) ≡ bit (s && t)
both_lane u v w s t e f = lane_and u v w ∙ ap₂ min e f ∙ min_and s t

clash_lane : (u v w place : ℕ) (s t : Bool) → lane u v ≡ bit s → lane u w ≡ bit t → lane u (bit_and v w)
    ≡ found_bit (cond (s && t) (Some place) None)
unfolding found_bit
clash_lane u v w place s t e f = both_lane u v w s t e f ∙ found (s && t)
  where
    found : (t : Bool) → bit t ≡ found_bit (cond t (Some place) None)
    found true = refl
    found false = refl

-- the complement of a bit stands for the negated test
pub not_lane : (u w : ℕ) (t : Bool) → u < lane_count → lane u w ≡ bit t → lane u (bit_xor w 18446744073709551615) ≡ bit (not t)
not_lane u w t h e = lane_xor u w 18446744073709551615 ∙ ap₂ (λ (x y : ℕ). (x + y) % 2) e (lane_all 64 u h) ∙ flip t
  where
    flip : (t : Bool) → (bit t + 1) % 2 ≡ bit (not t)
    flip true = refl
    flip false = refl

-- the search that a test decides
pub test_found : (t : Bool) (place : ℕ) → bit t ≡ found_bit (cond t (Some place) None)
unfolding found_bit
test_found true place = refl
test_found false place = refl

-- the larger of two bits stands for two searches in order
or_found : (p q : Option ℕ) → max (found_bit p) (found_bit q) ≡ found_bit (or_else p q)
unfolding found_bit or_else
or_found (Some i) (Some j) = refl
or_found (Some i) None = refl
or_found None (Some j) = refl
or_found None None = refl

pub found_none : (u : ℕ) (f : ℕ → Option ℕ) → lane u 0 ≡ found_bit (first_over 0 f)
unfolding found_bit first_over
found_none u f = lane_none u

pub found_more : (u i : ℕ) (f : ℕ → Option ℕ) (acc w : ℕ) → lane u acc ≡ found_bit (first_over i f) → lane u w
    ≡ found_bit (f i) → lane u (bit_or acc w) ≡ found_bit (first_over (i + 1) f)
unfolding first_over
found_more u i f acc w e g = lane_or u acc w ∙ ap₂ max e g ∙ or_found (first_over i f) (f i)
    ∙ sym (ap (λ (m : ℕ). found_bit (first_over m f)) (add-one i))

-- the larger of two bits stands for one of two tests
or_some : (s t : Bool) → max (bit s) (bit t) ≡ bit (s || t)
or_some true true = refl
or_some true false = refl
or_some false true = refl
or_some false false = refl

pub some_none : (u : ℕ) (t : ℕ → Bool) → lane u 0 ≡ bit (some_below 0 t)
unfolding some_below
some_none u t = lane_none u

pub some_more : (u i : ℕ) (t : ℕ → Bool) (acc w : ℕ) → lane u acc ≡ bit (some_below i t) → lane u w ≡ bit (t i)
    → lane u (bit_or acc w) ≡ bit (some_below (i + 1) t)
unfolding some_below
some_more u i t acc w e g = lane_or u acc w ∙ ap₂ max e g ∙ or_some (some_below i t) (t i)
    ∙ sym (ap (λ (m : ℕ). bit (some_below m t)) (add-one i))

-- the word at a place of a ballot says in each lane whether i is before j there
pub puts_lane : (u : ℕ) (words : List ℕ) (k b i j : ℕ) → lane u (get_or words ((b * k + i) * k + j) 0) ≡ bit (before k (lane_of u words) b i j)
unfolding before rank_place
puts_lane u words k b i j = byte_lane u words ((b * k + i) * k + j)

pub clash_at : (u v w k b i j : ℕ) (xs : List ℕ) → lane u v ≡ bit (before k xs b i j) → lane u w ≡ bit (before k xs b j i)
    → lane u (bit_and v w) ≡ found_bit (not_asymmetric_at k xs b i j)
unfolding not_asymmetric_at
clash_at u v w k b i j xs e f = clash_lane u v w (rank_place k b i j) (before k xs b i j) (before k xs b j i) e f

-- what the tests' proofs use of these
pub ruleset steps = (puts_lane, clash_at, both_lane, not_lane, test_found, found_none, found_more, some_none, some_more)

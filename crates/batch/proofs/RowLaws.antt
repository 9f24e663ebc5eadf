-- Rows of 64 juries at once: what the words `once` and `twice` say about each lane, and what a word of faults says
-- about each lane's first bad row.
-- Assumes nothing.
use Rattle.std.specs.Prelude.{Option, Some, None}
use mathlib.Core.Path.{◌≡◌, ◌∙◌, refl, sym, ap, ap₂}
use mathlib.Core.Bool.{Bool, true, false, cond}
use mathlib.Core.Logic.{⊎_elim}
use mathlib.Core.List.{List}
use Prim.Native.Nat.{ℕ, zero, suc, ◌+◌, ◌-◌, ◌*◌, ◌%◌, ◌≤◌, ◌<◌, min, max}
use native.Mathlib.Nat.{zero-mul, suc-mul, sub-zero, zero-max}
use native.Mathlib.Numerals.{add-one}
use native.Mathlib.Omega.{arith}
use lib.Bits.{bit_and, bit_or, bit_xor}
use lib.Dec.{eqb}
use lib.ListN.{length, get_or, take, drop}
use lib.Seq.{drop-cons, drop-drop}
use borrow.Author.Tests.{eq-eqb, ne_eqb, eqb-true, eqb-false}
use Rattle.jury.specs.Ballots.{ones, rows_of, first_bad_row}
use Rattle.jury.proofs.BallotLaws.{bad_here, bad_later}
use Rattle.batch_lanes.specs.Lane.{lane_count, lane, lane_of}
use Rattle.batch_lanes.proofs.LaneLaws.{lane_bit, lane_none, lane_all, lane_and, lane_or, lane_xor}
use Rattle.batch_lanes.proofs.ListLaws.{lanes_length, lanes_at}
use Rattle.batch.specs.inner.Found.{found_bit}
use Rattle.basics.proofs.Arithmetic.{bit_cases}

-- the ones from place i on: first byte i, then the rest
ones_step : (xs : List ℕ) (i : ℕ) → i < length xs → ones (drop i xs)
    ≡ cond (eqb (get_or xs i 0) 1) (suc (ones (drop (suc i) xs))) (ones (drop (suc i) xs))
unfolding ones
ones_step xs i h = rw (drop-cons xs i 0)

ones_here : (xs : List ℕ) (i : ℕ) → i < length xs → get_or xs i 0 ≡ 1 → ones (drop i xs) ≡ suc (ones (drop (suc i) xs))
ones_here xs i h e = ones_step xs i h
    ∙ ap (λ (t : Bool). cond t (suc (ones (drop (suc i) xs))) (ones (drop (suc i) xs))) (eq-eqb (get_or xs i 0) 1 e)

ones_later : (xs : List ℕ) (i : ℕ) → i < length xs → (get_or xs i 0 ≡ 1 → ⊥) → ones (drop i xs) ≡ ones (drop (suc i) xs)
ones_later xs i h e = ones_step xs i h
    ∙ ap (λ (t : Bool). cond t (suc (ones (drop (suc i) xs))) (ones (drop (suc i) xs))) (ne_eqb (get_or xs i 0) 1 e)

-- after words of a row of which m are 1 in lane j: whether there was a 1, and whether there was a second
pub record Seen (j : ℕ) (once twice m : ℕ) : Type 0 where
  pub one : lane j once ≡ min m 1
  pub two : lane j twice ≡ min (m - 1) 1

-- in lane j, `count` words before place i are 1; with the ones from place i on, these are all ones
pub record RowLane (j : ℕ) (words : List ℕ) (once twice i : ℕ) : Type 0 where
  pub count : ℕ
  pub seen : Seen j once twice count
  pub all : count + ones (drop i (lane_of j words)) ≡ ones (lane_of j words)

pub row_start : (j : ℕ) (words : List ℕ) → RowLane j words 0 0 0
row_start j words = record { count = 0; seen = record { one = lane_none j; two = lane_none j }; all = omega arith }

-- one more word, which is 0 in lane j
seen_none : (j once twice m w : ℕ) → Seen j once twice m → lane j w ≡ 0 → Seen j (bit_or once w) (bit_or twice (bit_and once w)) m
seen_none j once twice m w s e =
    record {
      one = lane_or j once w ∙ omega (arith, s.one);
      two = lane_or j twice (bit_and once w) ∙ ap (max (lane j twice)) (lane_and j once w) ∙ omega (arith, s.two);
    }

-- one more word, which is 1 in lane j
first_of : (m : ℕ) → max (min m 1) 1 ≡ min (suc m) 1
first_of zero = refl
first_of (suc m) = omega arith

second_of : (m : ℕ) → max (min (m - 1) 1) (min (min m 1) 1) ≡ min (suc m - 1) 1
second_of zero = refl
second_of (suc zero) = refl
second_of (suc (suc m)) = ap₂ max (above (suc (suc m) - 1) (omega arith))
    (ap₂ min (above (suc (suc m)) (omega arith)) refl) ∙ sym (above (suc (suc (suc m)) - 1) (omega arith))
  where
    above : (n : ℕ) → 1 ≤ n → min n 1 ≡ 1
    above n h = omega arith

seen_one : (j once twice m w : ℕ) → Seen j once twice m → lane j w ≡ 1 → Seen j (bit_or once w) (bit_or twice (bit_and once w)) (suc m)
seen_one j once twice m w s e =
    record {
      one = lane_or j once w ∙ ap₂ max s.one e ∙ first_of m;
      two = lane_or j twice (bit_and once w) ∙ ap₂ max s.two (lane_and j once w ∙ ap₂ min s.one e) ∙ second_of m;
    }

pub row_turn : (j : ℕ) (words : List ℕ) (once twice i : ℕ) → i < length words → RowLane j words once twice i
    → RowLane j words (bit_or once (get_or words i 0)) (bit_or twice (bit_and once (get_or words i 0))) (suc i)
row_turn j words once twice i h r = ⊎_elim none one (bit_cases (lane j (get_or words i 0)) (lane_bit j (get_or words i 0)))
  where
    within : i < length (lane_of j words)
    within = omega (arith, lanes_length j words)

    none : lane j (get_or words i 0) ≡ 0 → RowLane j words (bit_or once (get_or words i 0)) (bit_or twice (bit_and once (get_or words i 0))) (suc i)
    none e =
        let here = lanes_at j words i ∙ e in
        record {
          count = r.count;
          seen = seen_none j once twice r.count (get_or words i 0) r.seen e;
          all = omega (arith, r.all, ones_later (lane_of j words) i within (λ f. omega arith));
        }

    one : lane j (get_or words i 0) ≡ 1 → RowLane j words (bit_or once (get_or words i 0)) (bit_or twice (bit_and once (get_or words i 0))) (suc i)
    one e =
        record {
          count = suc r.count;
          seen = seen_one j once twice r.count (get_or words i 0) r.seen e;
          all = omega (arith, r.all, ones_here (lane_of j words) i within (lanes_at j words i ∙ e));
        }

-- a row is bad if there was no 1, or a second 1
bad_by : (m : ℕ) → max (min (m - 1) 1) ((min m 1 + 1) % 2) ≡ cond (eqb m 1) 0 1
bad_by zero = refl
bad_by (suc zero) = refl
bad_by (suc (suc m)) =
    let e : max (min (suc (suc m) - 1) 1) ((min (suc (suc m)) 1 + 1) % 2) ≡ 1 = omega arith in
    e ∙ sym (ap (λ (t : Bool). cond {A = ℕ} t 0 1) (ne_eqb (suc (suc m)) 1 (λ h. omega arith)))

pub row_end : (j : ℕ) → j < lane_count → (words : List ℕ) (once twice i : ℕ) → RowLane j words once twice i
    → ones (drop i (lane_of j words)) ≡ 0
    → lane j (bit_or twice (bit_xor once 18446744073709551615)) ≡ cond (eqb (ones (lane_of j words)) 1) 0 1
row_end j h words once twice i r e =
    let m : r.count ≡ ones (lane_of j words) = omega (arith, r.all) in
    lane_or j twice (bit_xor once 18446744073709551615)
    ∙ ap (max (lane j twice)) (lane_xor j once 18446744073709551615)
    ∙ ap (λ (x : ℕ). max (lane j twice) ((lane j once + x) % 2)) (lane_all 64 j h)
    ∙ ap₂ (λ (x y : ℕ). max y ((x + 1) % 2)) r.seen.one r.seen.two
    ∙ bad_by r.count ∙ ap (λ (n : ℕ). cond {A = ℕ} (eqb n 1) 0 1) m

-- what the proof of a row uses of these
pub ruleset row_steps = (row_start, row_turn, row_end)

-- the faults so far, and those of the rows that are left
found_bit_lem : (p : Option ℕ) → found_bit p ≤ 1
unfolding found_bit
found_bit_lem (Some i) = omega arith
found_bit_lem None = omega arith

pub rows_turn : (j d row rows faults fault : ℕ) (xs : List ℕ) → row < rows → lane j fault ≡ cond (eqb (ones (take d xs)) 1) 0 1
    → max (lane j (bit_or faults fault)) (found_bit (first_bad_row (suc row) (rows_of d (rows - suc row) (drop d xs))))
    ≡ max (lane j faults) (found_bit (first_bad_row row (rows_of d (rows - row) xs)))
unfolding found_bit
rows_turn j d row rows faults fault xs h e = go (eqb (ones (take d xs)) 1) refl
  where
    go : (t : Bool) → eqb (ones (take d xs)) 1 ≡ t
        → max (lane j (bit_or faults fault))
        (found_bit (first_bad_row (suc row) (rows_of d (rows - suc row) (drop d xs))))
        ≡ max (lane j faults) (found_bit (first_bad_row row (rows_of d (rows - row) xs)))
    go true p =
        let f : lane j fault ≡ 0 = e ∙ ap (λ (t : Bool). cond {A = ℕ} t 0 1) p in
        let o : lane j (bit_or faults fault) ≡ lane j faults = lane_or j faults fault ∙ omega arith in
        ap₂ (λ (x : ℕ) (q : Option ℕ). max x (found_bit q)) o (sym (bad_later d row rows xs h (eqb-true (ones (take d xs)) 1 p)))
    go false p =
        let f : lane j fault ≡ 1 = e ∙ ap (λ (t : Bool). cond {A = ℕ} t 0 1) p in
        let o : lane j (bit_or faults fault) ≡ 1 = lane_or j faults fault ∙ omega (arith, lane_bit j faults) in
        let here : first_bad_row row (rows_of d (rows - row) xs) ≡ Some row = bad_here d row rows xs h (eqb-false (ones (take d xs)) 1 p) in
        let rest = found_bit_lem (first_bad_row (suc row) (rows_of d (rows - suc row) (drop d xs))) in
        let left : max (lane j (bit_or faults fault))
        (found_bit (first_bad_row (suc row) (rows_of d (rows - suc row) (drop d xs)))) ≡ 1 = omega arith in
        let right : max (lane j faults) 1 ≡ 1 = omega (arith, lane_bit j faults) in
        left ∙ sym (ap (λ (q : Option ℕ). max (lane j faults) (found_bit q)) here ∙ right)

-- the same with the rows that are left as those from row `row` on
pub rows_start : (j d rows : ℕ) (xs : List ℕ) → max (lane j 0) (found_bit (first_bad_row 0 (rows_of d (rows - 0) (drop (0 * d) xs))))
    ≡ found_bit (first_bad_row 0 (rows_of d rows xs))
rows_start j d rows xs = rw (lane_none j, zero-mul d, sub-zero rows) (zero-max (found_bit (first_bad_row 0 (rows_of d rows xs))))

pub rows_more : (j d row rows faults fault : ℕ) (xs : List ℕ) → row < rows
    → lane j fault ≡ cond (eqb (ones (take d (drop (row * d) xs))) 1) 0 1
    → max (lane j (bit_or faults fault))
    (found_bit (first_bad_row (row + 1) (rows_of d (rows - (row + 1)) (drop ((row + 1) * d) xs))))
    ≡ max (lane j faults) (found_bit (first_bad_row row (rows_of d (rows - row) (drop (row * d) xs))))
rows_more j d row rows faults fault xs h e =
    let new = lane j (bit_or faults fault) in
    let next : (row + 1) * d ≡ row * d + d = omega (arith, ap (λ (n : ℕ). n * d) (add-one row), suc-mul row d) in
    ap (λ (n : ℕ). max new (found_bit (first_bad_row (row + 1) (rows_of d (rows - (row + 1)) (drop n xs))))) next
    ∙ ap (λ (n : ℕ). max new (found_bit (first_bad_row n (rows_of d (rows - n) (drop (row * d + d) xs))))) (add-one row)
    ∙ ap (λ (ys : List ℕ). max new (found_bit (first_bad_row (suc row) (rows_of d (rows - suc row) ys))))
    (sym (drop-drop d (row * d) xs))
    ∙ rows_turn j d row rows faults fault (drop (row * d) xs) h e

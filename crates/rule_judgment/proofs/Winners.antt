-- The closing bytes by judgment, place by place, and that there is always a winner.
-- Assumes nothing.
use mathlib.Core.Path.{◌≡◌, ◌∙◌, refl, sym, ap}
use mathlib.Core.Bool.{Bool, true, false, cond, not, ◌&&◌, and-false, true≢false}
use mathlib.Core.Logic.{◌⊎◌, inl, inr}
use mathlib.Core.List.{List, [], ◌∷◌, map}
use Prim.Native.Nat.{ℕ, zero, suc, ◌<◌}
use native.Mathlib.Omega.{arith}
use lib.ListN.{length, get_or, length-map}
use Rattle.basics.specs.Lists.{sum}
use Rattle.rule_judgment.specs.Median.{median_of}
use Rattle.basics.proofs.Flags.{and_both, never_true}
use Rattle.rule_judgment.specs.Judgment.{strike, strikes, sequence_of, precedes, none_precedes, judgment_of}
use Rattle.rule_judgment.specs.Winner.{Before, JudgmentWinner}
use Rattle.rule_judgment.specs.Theorems.{EachGets, ByteSays, SomeWinner}
use Rattle.rule_judgment.proofs.Order.{precedes_here, precedes_later, precedes_cases, precedes_self, precedes_trans}

-- an element of a mapped list
pub get_d_mapped : {A B : Type 0} (f : A → B) (l : List A) (i : ℕ) (d : A) (e : B) → i < length l → get_or (map f l) i e ≡ f (get_or l i d)
get_d_mapped f [] i d e h = absurd (omega arith)
get_d_mapped f (x ∷ l) zero d e h = refl
get_d_mapped f (x ∷ l) (suc i) d e h = get_d_mapped f l i d e (omega arith)

-- no row's sequence precedes that of row i
abbrev pub Unpreceded : List (List ℕ) → ℕ → Type 0
Unpreceded rows i = (j : ℕ) → j < length rows → precedes (sequence_of (get_or rows j [])) (sequence_of (get_or rows i [])) ≡ false

none_before : (rows : List (List ℕ)) (xs : List ℕ)
    → ((j : ℕ) → j < length rows → precedes (sequence_of (get_or rows j [])) xs ≡ false)
    → none_precedes (map sequence_of rows) xs ≡ true
unfolding none_precedes
none_before [] xs h = refl
none_before (row ∷ rows) xs h =
    and_both (not (precedes (sequence_of row) xs)) (none_precedes (map sequence_of rows) xs) (ap not (h 0 (omega arith)))
    (none_before rows xs (λ j l. h (suc j) (omega arith)))

one_before : (rows : List (List ℕ)) (xs : List ℕ) (j : ℕ) → j < length rows
    → precedes (sequence_of (get_or rows j [])) xs ≡ true → none_precedes (map sequence_of rows) xs ≡ false
unfolding none_precedes
one_before [] xs j l h = absurd (omega arith)
one_before (row ∷ rows) xs zero l h = ap (λ (t : Bool). not t && none_precedes (map sequence_of rows) xs) h
one_before (row ∷ rows) xs (suc j) l h =
    ap (λ (t : Bool). not (precedes (sequence_of row) xs) && t) (one_before rows xs j (omega arith) h)
    ∙ and-false (not (precedes (sequence_of row) xs))

pub judgment_length : (rows : List (List ℕ)) → length (judgment_of rows) ≡ length rows
unfolding judgment_of
judgment_length rows = length-map rows (λ (row : List ℕ). cond (none_precedes (map sequence_of rows) (sequence_of row)) 1 0)

module _ (rows : List (List ℕ)) (i : ℕ) (h : i < length rows) where
  abbrev own : List ℕ
  own = sequence_of (get_or rows i [])

  byte_is : get_or (judgment_of rows) i 0 ≡ cond (none_precedes (map sequence_of rows) own) 1 0
  unfolding judgment_of
  byte_is = get_d_mapped (λ (row : List ℕ). cond {A = ℕ} (none_precedes (map sequence_of rows) (sequence_of row)) 1 0) rows i [] 0 h

  -- the byte is 1 if no row's sequence precedes that of row i
  pub byte_one : Unpreceded rows i → get_or (judgment_of rows) i 0 ≡ 1
  byte_one u = byte_is ∙ ap (λ (t : Bool). cond {A = ℕ} t 1 0) (none_before rows own u)

  -- and 0 if one does
  pub byte_zero : (j : ℕ) → j < length rows → precedes (sequence_of (get_or rows j [])) own ≡ true → get_or (judgment_of rows) i 0 ≡ 0
  byte_zero j l p = byte_is ∙ ap (λ (t : Bool). cond {A = ℕ} t 1 0) (one_before rows own j l p)

  pub one_byte : get_or (judgment_of rows) i 0 ≡ 1 → Unpreceded rows i
  one_byte e j l = never_true (precedes (sequence_of (get_or rows j [])) own) (λ p. let z = byte_zero j l p in omega arith)

  -- a byte that is not 1 is 0
  pub byte_else : (get_or (judgment_of rows) i 0 ≡ 1 → ⊥) → get_or (judgment_of rows) i 0 ≡ 0
  byte_else never =
      byte_is
      ∙ ap (λ (t : Bool). cond {A = ℕ} t 1 0)
      (never_true (none_precedes (map sequence_of rows) own) (λ e. never (byte_is ∙ ap (λ (t : Bool). cond {A = ℕ} t 1 0) e)))

-- one of the rows that none precedes
record Least (rows : List (List ℕ)) : Type 0 where
  at : ℕ
  inside : at < length rows
  least : Unpreceded rows at

least_row : (row : List ℕ) (rows : List (List ℕ)) → Least (row ∷ rows)
least_row row [] = record { at = 0; inside = omega arith; least = only }
  where
    only : Unpreceded (row ∷ []) 0
    only zero l = never_true (precedes (sequence_of row) (sequence_of row)) (precedes_self (sequence_of row))
    only (suc j) l = absurd (omega arith)
least_row row (next ∷ rows) = go (least_row next rows)
  where
    go : Least (next ∷ rows) → Least (row ∷ next ∷ rows)
    go m = choose (precedes (sequence_of row) best) refl
      where
        best : List ℕ
        best = sequence_of (get_or (next ∷ rows) m.at [])

        choose : (t : Bool) → precedes (sequence_of row) best ≡ t → Least (row ∷ next ∷ rows)
        choose true e = record { at = 0; inside = omega arith; least = first }
          where
            first : Unpreceded (row ∷ next ∷ rows) 0
            first zero l = never_true (precedes (sequence_of row) (sequence_of row)) (precedes_self (sequence_of row))
            first (suc j) l =
                let other = sequence_of (get_or (next ∷ rows) j []) in
                never_true (precedes other (sequence_of row))
                (λ p. true≢false (sym (precedes_trans other (sequence_of row) best p e) ∙ m.least j (omega arith)))
        choose false e = record { at = suc m.at; inside = omega (arith, m.inside); least = later }
          where
            later : Unpreceded (row ∷ next ∷ rows) (suc m.at)
            later zero l = e
            later (suc j) l = m.least j (omega arith)

pub somebody_wins : (rows : List (List ℕ)) → 0 < length rows → SomeWinner rows
somebody_wins [] h = absurd (omega arith)
somebody_wins (row ∷ rows) h =
    let m = least_row row rows in
    record { who = m.at; candidate = m.inside; wins = byte_one (row ∷ rows) m.at m.inside m.least }

-- a sequence has as many entries as the row has grades
strikes_length : (left : ℕ) (row : List ℕ) → length (strikes left row) ≡ left
unfolding strikes
strikes_length zero row = refl
strikes_length (suc left) row = ap suc (strikes_length left (strike (median_of row) row))

pub sequence_length : (row : List ℕ) → length (sequence_of row) ≡ sum row
unfolding sequence_of
sequence_length row = strikes_length (sum row) row

-- the test `precedes` passes exactly if `Before` holds
before_from : (place : ℕ) (xs ys : List ℕ) → length xs ≡ length ys → place < length xs
    → ((i : ℕ) → i < place → get_or xs i 0 ≡ get_or ys i 0) → get_or xs place 0 < get_or ys place 0 → precedes xs ys ≡ true
before_from place [] ys e l same better = absurd (omega arith)
before_from place (x ∷ xs) [] e l same better = absurd (omega arith)
before_from zero (x ∷ xs) (y ∷ ys) e l same better = precedes_here x y xs ys better
before_from (suc place) (x ∷ xs) (y ∷ ys) e l same better =
    precedes_later x y xs ys (same 0 (omega arith))
    (before_from place xs ys (omega arith) (omega arith) (λ i m. same (suc i) (omega arith)) better)

precedes_before : (xs ys : List ℕ) → length xs ≡ length ys → precedes xs ys ≡ true → Before xs ys
unfolding precedes
precedes_before [] [] e h = let z : ◌≡◌ {A = ℕ} 0 1 = cc in absurd (omega arith)
precedes_before [] (y ∷ ys) e h = absurd (omega arith)
precedes_before (x ∷ xs) [] e h = absurd (omega arith)
precedes_before (x ∷ xs) (y ∷ ys) e h = go (precedes_cases x y xs ys h) (precedes_before xs ys (omega arith))
  where
    later : x ≡ y → Before xs ys → Before (x ∷ xs) (y ∷ ys)
    later f b = record { place = suc b.place; inside = omega (arith, b.inside); same = each; better = b.better }
      where
        each : (i : ℕ) → i < suc b.place → get_or (x ∷ xs) i 0 ≡ get_or (y ∷ ys) i 0
        each zero l = f
        each (suc i) l = b.same i (omega arith)

    go : (x < y) ⊎ ((x ≡ y) × (precedes xs ys ≡ true)) → (precedes xs ys ≡ true → Before xs ys) → Before (x ∷ xs) (y ∷ ys)
    go (inl l) ih = record { place = 0; inside = omega arith; same = λ i m. absurd (omega arith); better = l }
    go (inr r) ih = later r.0 (ih r.1)

module _ (n : ℕ) (rows : List (List ℕ)) (each : EachGets n rows) (i : ℕ) (h : i < length rows) where
  same_length : (j : ℕ) → j < length rows → length (sequence_of (get_or rows j [])) ≡ length (sequence_of (get_or rows i []))
  same_length j l = sequence_length (get_or rows j []) ∙ each j l ∙ sym (each i h) ∙ sym (sequence_length (get_or rows i []))

  wins_unpreceded : JudgmentWinner rows i → Unpreceded rows i
  wins_unpreceded w j l =
      never_true (precedes (sequence_of (get_or rows j [])) (sequence_of (get_or rows i [])))
      (λ p. w j l (precedes_before (sequence_of (get_or rows j [])) (sequence_of (get_or rows i [])) (same_length j l) p))

  unpreceded_wins : Unpreceded rows i → JudgmentWinner rows i
  unpreceded_wins u j l b =
      true≢false
      (sym (before_from b.place (sequence_of (get_or rows j [])) (sequence_of (get_or rows i [])) (same_length j l)
      b.inside b.same b.better) ∙ u j l)

  pub byte_says : ByteSays rows i
  byte_says = record {
    one = (λ e. unpreceded_wins (one_byte rows i h e), λ w. byte_one rows i h (wins_unpreceded w));
    zero = (
      λ e w. let o = byte_one rows i h (wins_unpreceded w) in omega arith,
      λ never. byte_else rows i h (λ e. never (unpreceded_wins (one_byte rows i h e))),
    );
  }

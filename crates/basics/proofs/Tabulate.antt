-- Tables of a function's values, and the loop that turns one table into another, an entry each turn.
-- Assumes nothing.
use mathlib.Core.Path.{◌≡◌, ◌∙◌, refl, sym, ap}
use mathlib.Core.Bool.{Bool, cond}
use mathlib.Core.Logic.{⊎_elim, ◌≢◌}
use mathlib.Core.List.{List, ◌∷◌, map}
use Prim.Native.Nat.{ℕ, zero, suc, ◌≤◌, ◌<◌}
use native.Mathlib.Omega.{arith}
use lib.Dec.{ltb}
use lib.ListN.{length, get_or, set, take, length-set}
use lib.Seq.{ext_get_or, get_or-set_same, get_or-set_other}
use borrow.Author.Tests.{lt-ltb, le-ltb}
use Rattle.basics.specs.Lists.{tabulate}
use Rattle.basics.proofs.Cases.{same_or_not, below_or_not}

module _ {A : Type 0} where
  pub length_tabulate : (n : ℕ) (f : ℕ → A) → length (tabulate n f) ≡ n
  unfolding tabulate
  length_tabulate zero f = refl
  length_tabulate (suc n) f = ap suc (length_tabulate n (λ i. f (suc i)))

  pub get_d_tabulate : (n i : ℕ) (f : ℕ → A) (d : A) → i < n → get_or (tabulate n f) i d ≡ f i
  unfolding tabulate
  get_d_tabulate zero i f d h = absurd (omega arith)
  get_d_tabulate (suc n) zero f d h = refl
  get_d_tabulate (suc n) (suc i) f d h = get_d_tabulate n i (λ j. f (suc j)) d (omega arith)

  -- a table depends only on the function's values below its length
  pub tabulate_cong : (n : ℕ) (f g : ℕ → A) → ((i : ℕ) → i < n → f i ≡ g i) → tabulate n f ≡ tabulate n g
  unfolding tabulate
  tabulate_cong zero f g h = refl
  tabulate_cong (suc n) f g h =
      cc (h 0 (omega arith), tabulate_cong n (λ i. f (suc i)) (λ i. g (suc i)) (λ i l. h (suc i) (omega arith)))

  -- a list is the table of its elements
  pub tabulate_get_d : (xs : List A) (n : ℕ) (d : A) → length xs ≡ n → tabulate n (λ i. get_or xs i d) ≡ xs
  tabulate_get_d xs n d e =
      ext_get_or d _ xs (length_tabulate n (λ i. get_or xs i d) ∙ sym e)
      (λ i h. get_d_tabulate n i (λ j. get_or xs j d) d (omega (arith, length_tabulate n (λ i. get_or xs i d))))

  -- the first k entries of a table
  pub take_tabulate : (k n : ℕ) (f : ℕ → A) → k ≤ n → take k (tabulate n f) ≡ tabulate k f
  unfolding tabulate
  take_tabulate zero n f h = refl
  take_tabulate (suc k) zero f h = absurd (omega arith)
  take_tabulate (suc k) (suc n) f h = ap (λ (l : List A). f 0 ∷ l) (take_tabulate k n (λ i. f (suc i)) (omega arith))

  -- entry j of the table after i turns: the new one if j is below i, otherwise the old one
  unfoldable pub up_to : ℕ → (ℕ → A) → (ℕ → A) → ℕ → A
  up_to i new old j = cond (ltb j i) (new j) (old j)

  pub up_to_new : (i j : ℕ) (new old : ℕ → A) → j < i → up_to i new old j ≡ new j
  unfolding up_to
  up_to_new i j new old h = ap (λ (t : Bool). cond t (new j) (old j)) (lt-ltb j i h)

  pub up_to_old : (i j : ℕ) (new old : ℕ → A) → i ≤ j → up_to i new old j ≡ old j
  unfolding up_to
  up_to_old i j new old h = ap (λ (t : Bool). cond t (new j) (old j)) (le-ltb j i h)

  -- turn i changes only entry i
  up_to_kept : (i j : ℕ) (new old : ℕ → A) → j ≢ i → up_to i new old j ≡ up_to (suc i) new old j
  up_to_kept i j new old e =
      ⊎_elim (λ l. up_to_new i j new old l ∙ sym (up_to_new (suc i) j new old (omega arith)))
      (λ l. up_to_old i j new old l ∙ sym (up_to_old (suc i) j new old (omega arith))) (below_or_not j i)

  pub fill_start : (n : ℕ) (new old : ℕ → A) → tabulate n (up_to 0 new old) ≡ tabulate n old
  fill_start n new old = tabulate_cong n (up_to 0 new old) old (λ j h. up_to_old 0 j new old (omega arith))

  -- before turn i, entry i is still the old one
  pub fill_at : (n i : ℕ) (new old : ℕ → A) (d : A) → i < n → get_or (tabulate n (up_to i new old)) i d ≡ old i
  fill_at n i new old d h = get_d_tabulate n i (up_to i new old) d h ∙ up_to_old i i new old (omega arith)

  -- turn i stores entry i
  pub fill_step : (n i : ℕ) (new old : ℕ → A) → i < n → set (tabulate n (up_to i new old)) i (new i) ≡ tabulate n (up_to (suc i) new old)
  fill_step n i new old h =
      ext_get_or (new i) (set before i (new i)) after (size ∙ sym (length_tabulate n (up_to (suc i) new old)))
      (λ j l. ⊎_elim (λ e. same j e) (λ e. other j e (omega (arith, size))) (same_or_not j i))
    where
      before : List A
      before = tabulate n (up_to i new old)

      after : List A
      after = tabulate n (up_to (suc i) new old)

      size : length (set before i (new i)) ≡ n
      size = length-set before i (new i) ∙ length_tabulate n (up_to i new old)

      here : get_or (set before i (new i)) i (new i) ≡ get_or after i (new i)
      here =
          get_or-set_same before i (new i) (new i) (omega (arith, length_tabulate n (up_to i new old)))
          ∙ sym (get_d_tabulate n i (up_to (suc i) new old) (new i) h ∙ up_to_new (suc i) i new old (omega arith))

      same : (j : ℕ) → j ≡ i → get_or (set before i (new i)) j (new i) ≡ get_or after j (new i)
      same j e = rw e here

      other : (j : ℕ) → j ≢ i → j < n → get_or (set before i (new i)) j (new i) ≡ get_or after j (new i)
      other j e l =
          get_or-set_other before i j (new i) (new i) e
          ∙ get_d_tabulate n j (up_to i new old) (new i) l
          ∙ up_to_kept i j new old e
          ∙ sym (get_d_tabulate n j (up_to (suc i) new old) (new i) l)

  -- the loop may end after i turns if the two tables agree from i on
  pub fill_end : (n i : ℕ) (new old : ℕ → A) → ((j : ℕ) → i ≤ j → j < n → new j ≡ old j) → tabulate n (up_to i new old) ≡ tabulate n new
  fill_end n i new old h =
      tabulate_cong n (up_to i new old) new
      (λ j l. ⊎_elim (λ b. up_to_new i j new old b) (λ b. up_to_old i j new old b ∙ sym (h j b l)) (below_or_not j i))

pub map_tabulate : {A B : Type 0} (g : A → B) (n : ℕ) (f : ℕ → A) → map g (tabulate n f) ≡ tabulate n (λ i. g (f i))
unfolding tabulate
map_tabulate g zero f = refl
map_tabulate g (suc n) f = ap (◌∷◌ (g (f 0))) (map_tabulate g n (λ i. f (suc i)))

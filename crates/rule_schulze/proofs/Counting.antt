-- The tables of the plain count give the rule's closing bytes.
-- Assumes nothing.
use mathlib.Core.Path.{◌≡◌, ◌∙◌, refl, sym, ap}
use mathlib.Core.Bool.{Bool, cond, ◌||◌}
use mathlib.Core.Logic.{⊎_elim, ◌≢◌}
use mathlib.Core.List.Memᴰ
use mathlib.Core.List.{List, [], ◌∷◌}
use Prim.Native.Nat.{ℕ, ◌<◌}
use native.Mathlib.Omega.{arith}
use lib.Dec.{leb, eqb}
use borrow.Author.Tests.{eq-eqb}
use Rattle.basics.specs.Lists.{all}
use Rattle.basics.proofs.Cases.{same_or_not}
use Rattle.basics.proofs.Tabulate.{tabulate_cong}
use Rattle.rule_schulze.specs.Schulze.{link, strongest, all_candidates, wins, schulze_of}
use Rattle.rule_schulze.specs.Closure.{closure}
use Rattle.rule_schulze.specs.Winner.{On}
use Rattle.rule_schulze.specs.inner.Tables.{entry, Holds, HoldsPairs, unbeaten_in}
use Rattle.rule_schulze.proofs.Members.{of_candidates}
use Rattle.rule_schulze.proofs.Paths.{closure_strongest}
use Rattle.rule_schulze.proofs.Tables.{AgreePairs, closure_agree}

all_same : (f g : ℕ → Bool) (xs : List ℕ) → ((x : ℕ) → On x xs → f x ≡ g x) → all f xs ≡ all g xs
unfolding all
all_same f g [] h = refl
all_same f g (x ∷ xs) h = cc (h x (Memᴰ.head refl), all_same f g xs (λ y m. h y (Memᴰ.tail m)))

-- whether i is unbeaten depends only on the strengths between the k candidates
unbeaten_same : (k : ℕ) (p q : ℕ → ℕ → ℕ) (i : ℕ) → i < k → AgreePairs k p q →
    all (λ j. eqb j i || leb (p j i) (p i j)) (all_candidates k) ≡ all (λ j. eqb j i || leb (q j i) (q i j)) (all_candidates k)
unbeaten_same k p q i h a = all_same (λ j. eqb j i || leb (p j i) (p i j)) (λ j. eqb j i || leb (q j i) (q i j))
    (all_candidates k) (λ j m. ⊎_elim (same j) (other j (of_candidates k m)) (same_or_not j i))
  where
    same : (j : ℕ) → j ≡ i → (eqb j i || leb (p j i) (p i j)) ≡ (eqb j i || leb (q j i) (q i j))
    same j e = rw (eq-eqb j i e)

    other : (j : ℕ) → j < k → j ≢ i → (eqb j i || leb (p j i) (p i j)) ≡ (eqb j i || leb (q j i) (q i j))
    other j l n = rw (a j i l h n, a i j h l (λ e. n (sym e)))

-- if the strengths of links agree between the k candidates, so do the strengths of the strongest paths
pub strongest_agree : (k : ℕ) (s t : ℕ → ℕ → ℕ) → AgreePairs k s t → AgreePairs k (strongest s k) (strongest t k)
strongest_agree k s t a i j hi hj ne =
    sym (closure_strongest s k i j ne) ∙ closure_agree k k s t (omega arith) a i j hi hj ne ∙ closure_strongest t k i j ne

link_agree : (k : ℕ) (v w : ℕ → ℕ → ℕ) → ((i j : ℕ) → i < k → j < k → v i j ≡ w i j) → AgreePairs k (link v) (link w)
unfolding link
link_agree k v w h i j hi hj ne = rw (h i j hi hj, h j i hj hi)

-- the closing bytes depend only on the votes between the k candidates
pub closing_agree : (k : ℕ) (v w : ℕ → ℕ → ℕ) → ((i j : ℕ) → i < k → j < k → v i j ≡ w i j) → schulze_of v k ≡ schulze_of w k
unfolding schulze_of wins
closing_agree k v w h =
    tabulate_cong k (λ i. cond (wins v k i) 1 0) (λ i. cond (wins w k i) 1 0)
    (λ i l. ap (λ (t : Bool). cond {A = ℕ} t 1 0)
    (unbeaten_same k (strongest (link v) k) (strongest (link w) k) i l
    (strongest_agree k (link v) (link w) (link_agree k v w h))))

-- the table after all detours names the rule's winners
pub table_wins : (k : ℕ) (v : ℕ → ℕ → ℕ) (links paths : List (List ℕ)) → Holds k links (link v)
    → HoldsPairs k paths (closure k (entry links)) → (i : ℕ) → i < k → unbeaten_in paths k i ≡ wins v k i
unfolding unbeaten_in wins
table_wins k v links paths hl hp i h =
    unbeaten_same k (entry paths) (strongest (link v) k) i h
    (λ a b ha hb ne.
    hp a b ha hb ne ∙ closure_agree k k (entry links) (link v) (omega arith) (λ c d hc hd n. hl c d hc hd) a b ha hb
    ne ∙ closure_strongest (link v) k a b ne)

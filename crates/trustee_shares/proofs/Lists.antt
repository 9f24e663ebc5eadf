-- Lists given by a function of the place.
-- Assumes nothing.
use mathlib.Core.Path.{◌≡◌, refl, ap}
use mathlib.Core.List.{List, [], ◌∷◌}
use Prim.Native.Nat.{ℕ, zero, suc, ◌+◌, ◌*◌, ◌/◌, ◌%◌, ◌<◌}
use native.Mathlib.Omega.{arith}
use lib.ListN.{length, get_or}
use lib.Seq.{ext_get_or}
use Rattle.trustee_shares.specs.Shares.{u_of, v_of, product_of}

-- the values of f at 0, 1, and so on
unfoldable pub made : ℕ → (ℕ → ℕ) → List ℕ
made zero f = []
made (suc n) f = f 0 ∷ made n (λ i. f (suc i))

pub length_made : (n : ℕ) (f : ℕ → ℕ) → length (made n f) ≡ n
unfolding made
length_made zero f = refl
length_made (suc n) f = ap suc (length_made n (λ i. f (suc i)))

pub made_at : (n : ℕ) (f : ℕ → ℕ) (i : ℕ) → i < n → get_or (made n f) i 0 ≡ f i
unfolding made
made_at zero f i h = absurd (omega arith)
made_at (suc n) f zero h = refl
made_at (suc n) f (suc i) h = made_at n (λ j. f (suc j)) i (omega arith)

-- the list of n triples
unfoldable pub triple_list : ℕ → (ℕ → ℕ) → (ℕ → ℕ) → (ℕ → ℕ) → List ℕ
triple_list zero u v w = []
triple_list (suc n) u v w = u 0 ∷ v 0 ∷ w 0 ∷ triple_list n (λ i. u (suc i)) (λ i. v (suc i)) (λ i. w (suc i))

pub length_triples : (n : ℕ) (u v w : ℕ → ℕ) → length (triple_list n u v w) ≡ 3 * n
unfolding triple_list
length_triples zero u v w = refl
length_triples (suc n) u v w = omega (arith, length_triples n (λ i. u (suc i)) (λ i. v (suc i)) (λ i. w (suc i)))

-- the place of entry j of triple i + 1
three_more : (i j : ℕ) → 3 * suc i + j ≡ suc (suc (suc (3 * i + j)))
three_more i j = omega arith

triples_at : (n : ℕ) (u v w : ℕ → ℕ) (i : ℕ) → i < n
    → (get_or (triple_list n u v w) (3 * i + 0) 0 ≡ u i) × (get_or (triple_list n u v w) (3 * i + 1) 0 ≡ v i)
    × (get_or (triple_list n u v w) (3 * i + 2) 0 ≡ w i)
unfolding triple_list
triples_at zero u v w i h = absurd (omega arith)
triples_at (suc n) u v w zero h = (refl, refl, refl)
triples_at (suc n) u v w (suc i) h =
    let r = triples_at n (λ i. u (suc i)) (λ i. v (suc i)) (λ i. w (suc i)) i (omega arith) in
    (rw (three_more i 0) r.0, rw (three_more i 1) r.1, rw (three_more i 2) r.2)

pub triple_u : (n : ℕ) (u v w : ℕ → ℕ) (i : ℕ) → i < n → u_of (triple_list n u v w) i ≡ u i
unfolding u_of
triple_u n u v w i h = let e : 3 * i ≡ 3 * i + 0 = omega arith in rw e (triples_at n u v w i h).0

pub triple_v : (n : ℕ) (u v w : ℕ → ℕ) (i : ℕ) → i < n → v_of (triple_list n u v w) i ≡ v i
unfolding v_of
triple_v n u v w i h = (triples_at n u v w i h).1

pub triple_w : (n : ℕ) (u v w : ℕ → ℕ) (i : ℕ) → i < n → product_of (triple_list n u v w) i ≡ w i
unfolding product_of
triple_w n u v w i h = (triples_at n u v w i h).2

-- dealer parts with equal triples are equal
pub triples_same : (n : ℕ) (xs ys : List ℕ) → length xs ≡ 3 * n → length ys ≡ 3 * n
    → ((i : ℕ) → i < n → (u_of xs i ≡ u_of ys i) × (v_of xs i ≡ v_of ys i) × (product_of xs i ≡ product_of ys i)) → xs ≡ ys
unfolding u_of v_of product_of
triples_same n xs ys lx ly e = ext_get_or 0 xs ys (omega arith) (λ (m : ℕ) h. at m (m / 3) (m % 3) refl refl (omega arith))
  where
    at : (m i r : ℕ) → m / 3 ≡ i → m % 3 ≡ r → i < n → get_or xs m 0 ≡ get_or ys m 0
    at m i zero ei er h = let s : m ≡ 3 * i = omega arith in rw s (e i h).0
    at m i (suc zero) ei er h = let s : m ≡ 3 * i + 1 = omega arith in rw s (e i h).1
    at m i (suc (suc zero)) ei er h = let s : m ≡ 3 * i + 2 = omega arith in rw s (e i h).2
    at m i (suc (suc (suc r))) ei er h = absurd (omega arith)

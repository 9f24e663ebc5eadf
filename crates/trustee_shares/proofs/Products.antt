-- The product of two shared bits, computed with a dealt triple.
-- Assumes nothing.
use mathlib.Core.Path.{◌≡◌, ◌∙◌, refl}
use mathlib.Core.List.{List}
use Prim.Native.Nat.{ℕ, zero, suc, ◌+◌, ◌*◌, ◌%◌, ◌≤◌}
use native.Mathlib.Omega.{arith}
use Rattle.trustee_shares.specs.Shares.{sum_of, opened, entered, u_of, v_of, product_of, product_part}
use Rattle.trustee_shares.proofs.SumLaws.{sum_mod, sum_add, sum_times, sum_entered}

-- sums of two and of three parts
pub opened_two : (t : ℕ) (x y : ℕ → ℕ) → opened t (λ p. (x p + y p) % 2) ≡ (opened t x + opened t y) % 2
unfolding opened
opened_two t x y = omega (arith, sum_mod t (λ p. x p + y p), sum_add t x y)

-- what holds for 0 and 1 holds for every bit
pub two : (P : ℕ → Type 0) → P 0 → P 1 → (x : ℕ) → x ≤ 1 → P x
two P none one zero h = none
two P none one (suc zero) h = one
two P none one (suc (suc x)) h = absurd (omega arith)

-- The arithmetic: the factors x and y are opened under the masks u and v, and what the trustees then hold adds up
-- to x · y. Each bit is the sum of its parts modulo 2; sx is the sum of the parts of x, and so on.
abbrev Stated : ℕ → ℕ → ℕ → ℕ → Type 0
Stated x y u v =
    (sx sy su sv sp : ℕ) → sx % 2 ≡ x → sy % 2 ≡ y → su % 2 ≡ u → sv % 2 ≡ v → sp % 2 ≡ u * v
    → (sp + (x + u) % 2 * sv + (y + v) % 2 * su + (x + u) % 2 * ((y + v) % 2)) % 2 ≡ x * y

spelled : (x y u v : ℕ) → x ≤ 1 → y ≤ 1 → u ≤ 1 → v ≤ 1 → Stated x y u v
spelled x y u v hx hy hu hv =
    two (λ x. Stated x y u v)
    (two (λ y. Stated 0 y u v) (two (λ u. Stated 0 0 u v)
    (two (Stated 0 0 0) (λ sx sy su sv sp hx hy hu hv hp. omega arith)
    (λ sx sy su sv sp hx hy hu hv hp. omega arith) v hv)
    (two (Stated 0 0 1) (λ sx sy su sv sp hx hy hu hv hp. omega arith) (λ sx sy su sv sp hx hy hu hv hp. omega arith) v hv) u hu)
    (two (λ u. Stated 0 1 u v) (two (Stated 0 1 0) (λ sx sy su sv sp hx hy hu hv hp. omega arith)
    (λ sx sy su sv sp hx hy hu hv hp. omega arith) v hv)
    (two (Stated 0 1 1) (λ sx sy su sv sp hx hy hu hv hp. omega arith) (λ sx sy su sv sp hx hy hu hv hp. omega arith) v hv) u hu) y hy)
    (two (λ y. Stated 1 y u v) (two (λ u. Stated 1 0 u v)
    (two (Stated 1 0 0) (λ sx sy su sv sp hx hy hu hv hp. omega arith)
    (λ sx sy su sv sp hx hy hu hv hp. omega arith) v hv)
    (two (Stated 1 0 1) (λ sx sy su sv sp hx hy hu hv hp. omega arith) (λ sx sy su sv sp hx hy hu hv hp. omega arith) v hv) u hu)
    (two (λ u. Stated 1 1 u v) (two (Stated 1 1 0) (λ sx sy su sv sp hx hy hu hv hp. omega arith)
    (λ sx sy su sv sp hx hy hu hv hp. omega arith) v hv)
    (two (Stated 1 1 1) (λ sx sy su sv sp hx hy hu hv hp. omega arith) (λ sx sy su sv sp hx hy hu hv hp. omega arith) v hv) u hu) y hy)
    x hx

-- the sum of all trustees' bits of a product
sum_products : (t : ℕ) (triples : ℕ → List ℕ) (i e f : ℕ) → 1 ≤ t → e ≤ 1 → f ≤ 1
    → opened t (λ p. product_part p (triples p) i e f)
    ≡ (sum_of t (λ p. product_of (triples p) i) + e * sum_of t (λ p. v_of (triples p) i) + f * sum_of t (λ p. u_of (triples p) i) + e * f) % 2
unfolding opened product_part
sum_products t triples i e f ht he hf =
    let w : ℕ → ℕ = λ p. product_of (triples p) i in
    let v : ℕ → ℕ = λ p. v_of (triples p) i in
    let u : ℕ → ℕ = λ p. u_of (triples p) i in
    let l = sum_mod t (λ p. w p + e * v p + f * u p + entered p (e * f)) in
    let a = sum_add t (λ p. w p + e * v p + f * u p) (λ p. entered p (e * f)) in
    let b = sum_add t (λ p. w p + e * v p) (λ p. f * u p) in
    let c = sum_add t w (λ p. e * v p) in
    let d = sum_times t e v he in
    let k = sum_times t f u hf in
    let g = sum_entered t (e * f) ht in
    omega arith

-- a triple: the third bit is the product of the other two
abbrev pub Triple : ℕ → (ℕ → List ℕ) → ℕ → Type 0
Triple t triples i = opened t (λ p. product_of (triples p) i) ≡ opened t (λ p. u_of (triples p) i) * opened t (λ p. v_of (triples p) i)

-- two factors, opened under their masks, give parts of their product
pub product_opens : (t : ℕ) (triples : ℕ → List ℕ) (i : ℕ) (x y : ℕ → ℕ) → 1 ≤ t → Triple t triples i
    → opened t (λ p. product_part p (triples p) i (opened t (λ q. (x q + u_of (triples q) i) % 2)) (opened t (λ q. (y q + v_of (triples q) i) % 2)))
    ≡ opened t x * opened t y
unfolding opened
product_opens t triples i x y ht triple =
    let u : ℕ → ℕ = λ p. u_of (triples p) i in
    let v : ℕ → ℕ = λ p. v_of (triples p) i in
    let w : ℕ → ℕ = λ p. product_of (triples p) i in
    let e = opened_two t x u in
    let f = opened_two t y v in
    sum_products t triples i (sum_of t (λ q. (x q + u q) % 2) % 2) (sum_of t (λ q. (y q + v q) % 2) % 2) ht (omega arith) (omega arith)
    ∙ rw (e, f) (spelled (sum_of t x % 2) (sum_of t y % 2) (sum_of t u % 2) (sum_of t v % 2) (omega arith) (omega arith)
    (omega arith) (omega arith)
    (sum_of t x) (sum_of t y) (sum_of t u) (sum_of t v) (sum_of t w) refl refl refl refl triple)

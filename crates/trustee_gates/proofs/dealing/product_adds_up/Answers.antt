-- `trustee_gates::dealing::product_adds_up` meets its contract: it opens u, v and the product, and compares.
-- Assumes nothing.
use mathlib.Core.Path.{◌≡◌, ◌∙◌, ap}
use Prim.Native.Nat.{ℕ, ◌+◌, ◌*◌, ◌%◌}
use lib.Dec.{eqb}
use Rattle.trustee_shares.specs.Shares.{opened, part, u_of, v_of, product_of}
use Rattle.trustee_shares.specs.Views.{piece}
use Rattle.trustee_gates.specs.Dealing.{product_adds_up}
use Rattle.trustee_gates.proofs.Parity.{opened_bit, bit_times}
use Rattle.trustee_gates.proofs.dealing.product_adds_up.Goals as goal

pub returns : goal.returns
unfolding product_adds_up product_of u_of v_of part
returns c = let a = c.args in
    let f : ℕ → ℕ → ℕ = λ x p. part (piece a.size a.triples.now p) x in
    let u = opened a.t (f (3 * a.i)) in
    let v = opened a.t (f (3 * a.i + 1)) in
    let w = opened a.t (f (3 * a.i + 2)) in
    let e : c.times.result ≡ u * v =
    c.times.ensures ∙ ap (λ (n : ℕ). n * c.open-v.result % 2) c.open-u.ensures
    ∙ ap (λ (n : ℕ). u * n % 2) c.open-v.ensures
    ∙ bit_times u v (opened_bit a.t (f (3 * a.i))) (opened_bit a.t (f (3 * a.i + 1))) in
    ap (λ (n : ℕ). eqb n c.times.result) c.open.ensures ∙ ap (λ (n : ℕ). eqb w n) e

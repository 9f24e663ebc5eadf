-- `gate_adders::counter::level_sum` meets its contract: it computes the definition.
-- Assumes nothing.
use mathlib.Core.Path.{◌≡◌, ◌∙◌, sym, ap}
use Prim.Native.Nat.{ℕ, ◌+◌, ◌-◌, ◌*◌}
use borrow.Author.Tests.{eq-eqb, ne_eqb}
use Rattle.gate_words.specs.Counter.{adders, level_sum}
use Rattle.gate_adders.proofs.counter.level_sum.Goals as goal

no_adder : (n s m e t : ℕ) → t ≡ adders m e → t ≡ 0 → s ≡ level_sum n s m e
unfolding level_sum
no_adder n s m e t p q = rw (eq-eqb (adders m e) 0 (sym p ∙ q))

last_adder : (n s m e t : ℕ) → t ≡ adders m e → (t ≡ 0 → ⊥) → n + 3 * t - 2 ≡ level_sum n s m e
unfolding level_sum
last_adder n s m e t p q = rw (ne_eqb (adders m e) 0 (λ r. q (p ∙ r))) (ap (λ (x : ℕ). n + 3 * x - 2) p)

pub returns-then-adders-eq0 : goal.returns-then-adders-eq0
returns-then-adders-eq0 c =
    let a = c.args in
    no_adder a.n a.s a.count a.e c.adders_of-adders.result c.adders_of-adders.ensures
    c.if-adders-eq0.true

pub returns-else-adders-eq0 : goal.returns-else-adders-eq0
returns-else-adders-eq0 c =
    let a = c.args in
    last_adder a.n a.s a.count a.e c.adders_of-adders.result c.adders_of-adders.ensures
    c.if-adders-eq0.false

-- What the program stores for one gate is each trustee's new part.
-- Assumes nothing.
use mathlib.Core.Path.{◌≡◌, ◌∙◌, ap}
use mathlib.Core.Bool.{false}
use mathlib.Core.List.{List, [], ◌∷◌}
use Prim.Native.Nat.{ℕ, ◌<◌}
use Rattle.gates.specs.Kind.{conditional_of, kind_count}
use Rattle.gates.specs.Gate.{Gate}
use Rattle.trustee_shares.specs.Shares.{part, product_part, part_of_kind, Held, opened_first, opened_second, new_part}
use Rattle.trustee_shares.specs.Views.{piece}
use Rattle.trustee_shares.proofs.Exchange.{ignores}
use Rattle.trustee_gates.specs.inner.Tables.{each_puts}
use Rattle.trustee_gates.proofs.Puts.{puts_same}

module _ (t size own i : ℕ) (g : Gate) (triples : Held) (ws after : List ℕ) where
  -- trustee p's bit, from its bit z of the product
  abbrev bit : ℕ → ℕ → ℕ
  bit p z = part_of_kind p g.kind (part (piece size ws p) g.a) (part (piece size ws p) g.b) (part (piece size ws p) g.c) z

  pub products_entered : (e f : ℕ) → e ≡ opened_first t triples (piece size ws) i g → f ≡ opened_second t triples (piece size ws) i g
      → after ≡ each_puts t size own (λ p. part_of_kind p g.kind (part (piece size ws p) g.a)
      (part (piece size ws p) g.b) (part (piece size ws p) g.c) (product_part p (triples p) i e f) ∷ []) ws
      → after ≡ each_puts t size own (λ p. new_part t triples (piece size ws) i g p ∷ []) ws
  unfolding new_part
  products_entered e f he hf h =
      h ∙ ap (λ (x : ℕ). each_puts t size own (λ p. bit p (product_part p (triples p) i x f) ∷ []) ws) he
      ∙ ap (λ (y : ℕ). each_puts t size own (λ p. bit p (product_part p (triples p) i (opened_first t triples (piece size ws) i g) y) ∷ []) ws) hf

  pub free_entered : g.kind < kind_count → conditional_of g.kind ≡ false
      → after ≡ each_puts t size own (λ p. part_of_kind p g.kind (part (piece size ws p) g.a)
      (part (piece size ws p) g.b) (part (piece size ws p) g.c) 0 ∷ []) ws
      → after ≡ each_puts t size own (λ p. new_part t triples (piece size ws) i g p ∷ []) ws
  unfolding new_part
  free_entered known free h =
      h ∙ puts_same t size own (λ p. bit p 0 ∷ [])
      (λ p. bit p (product_part p (triples p) i (opened_first t triples (piece size ws) i g)
      (opened_second t triples (piece size ws) i g)) ∷ []) ws
      (λ (p : ℕ) l. ap (λ (x : ℕ). x ∷ [])
      (ignores p g.kind (part (piece size ws p) g.a) (part (piece size ws p) g.b)
      (part (piece size ws p) g.c) 0
      (product_part p (triples p) i (opened_first t triples (piece size ws) i g)
      (opened_second t triples (piece size ws) i g)) known free))

-- `gates::kind::value` meets its contract: it takes the value out of `apply`'s answer.
-- Assumes nothing.
use mathlib.Core.Path.{◌≡◌, ◌∙◌, refl, sym, ap}
use mathlib.Core.List.{[], ◌∷◌}
use mathlib.Core.Bool.{Bool, true, false, cond}
use Prim.Native.Nat.{ℕ, ◌-◌, min, max}
use lib.Dec.{ltb}
use lib.ListN.{get_or-eq_default}
use borrow.Author.Tests.{ltb-false}
use Rattle.std.specs.Prelude.{Option, Some, None}
use Rattle.std.specs.Option.{unwrap_or}
use Rattle.gates.specs.Open.Kind.{kind_count, applied, value_of, differ, chosen}
use Rattle.gates.proofs.kind.value.Goals as goal

value_or_0 : (k a b c : ℕ) → unwrap_or (applied k a b c) 0 ≡ value_of k a b c
unfolding applied value_of
value_or_0 k a b c = go (ltb k kind_count) refl
  where
    go : (t : Bool) → ltb k kind_count ≡ t → unwrap_or (applied k a b c) 0 ≡ value_of k a b c
    go true e = ap (λ u. unwrap_or (cond u (Some (value_of k a b c)) None) 0) e
    go false e =
        ap (λ u. unwrap_or (cond u (Some (value_of k a b c)) None) 0) e
        ∙ sym (get_or-eq_default (0 ∷ 1 ∷ a ∷ (1 - a) ∷ min a b ∷ max a b ∷ differ a b ∷ chosen a b c ∷ []) 0 (ltb-false k 8 e))

pub returns : goal.returns
returns c = c.unwrap_or.ensures ∙ ap (λ (o : Option ℕ). unwrap_or o 0) c.apply.ensures ∙ value_or_0 _ _ _ _

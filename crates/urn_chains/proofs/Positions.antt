-- The search for a juror's ballot, one slot at a time.
-- Assumes nothing.
use mathlib.Core.Path.{◌≡◌, ◌∙◌, sym, ap, subst}
use mathlib.Core.Logic.{◌≢◌}
use mathlib.Core.Bool.{Bool, true, cond}
use mathlib.Core.List.{List, ◌∷◌}
use Prim.Native.Nat.{ℕ, ◌+◌, ◌-◌, ◌≤◌, ◌<◌}
use native.Mathlib.Omega.{arith}
use borrow.Author.Tests.{eq-eqb, ne_eqb}
use Rattle.std.specs.Prelude.{None}
use Rattle.urn_chains.specs.Slots.{Slot, slot_at}
use Rattle.urn_chains.specs.Chains.{chain}
use Rattle.basics.specs.Lists.{all}
use Rattle.urn_chains.specs.Sound.{in_urn}
use Rattle.urn_chains.specs.inner.Position.{placed_at, position_of}
use Rattle.urn_chains.proofs.Lists.{all_first, all_rest}
use Rattle.urn_chains.proofs.Linked.{below}
use Rattle.urn_chains.proofs.Walks.{chain_step, chain_end}

-- The search after `count` slots, of which `before` is the last, about to look at `slot`: the search in the rest
-- finds what the search in the whole chain finds.
pub record OnFind (slots : List Slot) (n first juror before count slot : ℕ) : Type 0 where
  pub within : count ≤ n
  pub rest : position_of slots juror before (chain (n - count) slot slots) ≡ position_of slots juror 0 (chain n first slots)
  pub inside : all (in_urn n) (chain (n - count) slot slots) ≡ true

module _ (slots : List Slot) (n first juror before count slot : ℕ) (on : OnFind slots n first juror before count slot) where
  step : count < n → 0 < slot → chain (n - count) slot slots ≡ slot ∷ chain (n - (count + 1)) (slot_at slots slot).next slots
  step h p =
      chain_step (n - count) slot slots (omega arith) p
      ∙ ap (λ (m : ℕ). slot ∷ chain m (slot_at slots slot).next slots) {x = n - count - 1} {y = n - (count + 1)} (omega arith)

  pub find_below : count ≢ n → 0 < slot → slot < n
  find_below h p =
      let l : count < n = omega (arith, on.within) in
      below n slot (all_first (in_urn n) slot (chain (n - (count + 1)) (slot_at slots slot).next slots)
      (ap (all (in_urn n)) (sym (step l p)) ∙ on.inside))

  pub find_here : count ≢ n → 0 < slot → (slot_at slots slot).juror ≡ juror → placed_at before slot
      ≡ position_of slots juror 0 (chain n first slots)
  unfolding position_of
  find_here h p e =
      let l : count < n = omega (arith, on.within) in
      ap (λ (t : Bool). cond t (placed_at before slot)
      (position_of slots juror slot (chain (n - (count + 1)) (slot_at slots slot).next slots)))
      (sym (eq-eqb (slot_at slots slot).juror juror e))
      ∙ ap (position_of slots juror before) (sym (step l p))
      ∙ on.rest

  pub find_go : (next : ℕ) → next ≡ (slot_at slots slot).next → count ≢ n → 0 < slot
      → ((slot_at slots slot).juror ≡ juror → ⊥) → OnFind slots n first juror slot (count + 1) next
  unfolding position_of
  find_go next e h p f =
      let l : count < n = omega (arith, on.within) in
      let rest = chain (n - (count + 1)) (slot_at slots slot).next slots in
      subst (λ (i : ℕ). OnFind slots n first juror slot (count + 1) i) (sym e)
      (record {
        within = omega arith;
        rest =
            ap (λ (t : Bool). cond t (placed_at before slot) (position_of slots juror slot rest))
            (sym (ne_eqb (slot_at slots slot).juror juror f))
            ∙ ap (position_of slots juror before) (sym (step l p))
            ∙ on.rest;
        inside = all_rest (in_urn n) slot rest (ap (all (in_urn n)) (sym (step l p)) ∙ on.inside);
      })

  pub find_stuck : count ≡ n → None ≡ position_of slots juror 0 (chain n first slots)
  unfolding position_of chain
  find_stuck e = ap (λ (m : ℕ). position_of slots juror before (chain m slot slots)) {x = 0} {y = n - count} (omega arith) ∙ on.rest

  pub find_end : slot ≡ 0 → None ≡ position_of slots juror 0 (chain n first slots)
  unfolding position_of
  find_end e =
      ap (position_of slots juror before) (sym (ap (λ (i : ℕ). chain (n - count) i slots) e ∙ chain_end (n - count) slots)) ∙ on.rest

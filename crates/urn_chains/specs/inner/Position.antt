-- Where a juror's ballot lies in its chain.
use Rattle.std.specs.Prelude.{◌≡◌, true, cond, List, [], ◌∷◌, ℕ, eqb, get_or, Option, Some, None}
use Rattle.urn_chains.specs.Slots.{Slot, slots_of, slot_at}
use Rattle.urn_chains.specs.Chains.{chain}
use Rattle.basics.specs.Lists.{all}
use Rattle.urn_chains.specs.Sound.{in_urn}
use Rattle.urn_chains.specs.declared.find.ChainPosition.{ChainPosition}
use Rattle.urn_chains.specs.inner.Table.{SlotTable}

-- The urn has n slots, and the ballot chain does not leave them.
pub record Searchable (b n : ℕ) (urn : List ℕ) : Type 0 where
  pub table : SlotTable b n urn
  pub inside : all (in_urn n) (chain n (get_or urn 0 0) (slots_of b n urn)) ≡ true

-- A ballot in this slot, after slot `before` in its chain.
abbrev pub placed_at : ℕ → ℕ → Option ChainPosition
placed_at before slot = Some (record { before = before; slot = slot })

-- The slot of the juror's ballot among these slots of a chain, and the slot before it in the chain. `before` is the
-- slot before the first of these.
unfoldable pub position_of : List Slot → ℕ → ℕ → List ℕ → Option ChainPosition
position_of slots juror before [] = None
position_of slots juror before (i ∷ is) =
    cond (eqb (slot_at slots i).juror juror) (placed_at before i) (position_of slots juror i is)

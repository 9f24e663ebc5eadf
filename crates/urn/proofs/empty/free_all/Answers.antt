-- `urn::empty::free_all` meets its contract: the slots after slot `left` are free, in order.
-- Assumes nothing.
use mathlib.Core.Path.{◌≡◌, ◌∙◌, refl, sym, ap, subst}
use mathlib.Core.List.{List}
use Prim.Native.Nat.{ℕ, suc, ◌+◌, ◌-◌, ◌*◌, ◌<◌, ◌≤◌}
use native.Mathlib.Nat.{suc-mul}
use native.Mathlib.Omega.{arith}
use lib.ListN.{length, set, replicate}
use Rattle.urn_chains.specs.Slots.{slot_bytes}
use Rattle.urn_chains.proofs.SlotLaws.{slot_within, size_least}
use Rattle.urn.proofs.EmptyUrn.{Freed, freed_start, freed_go, freed_done}
use Rattle.urn.proofs.empty.free_all.Goals as goal

-- the last slot is slot n - 1
from_last : (b n : ℕ) (urn : List ℕ) → 2 ≤ n → urn ≡ replicate (n * slot_bytes b) 0 → Freed b n urn (suc (n - 1)) 0
from_last b n urn h e = subst (λ (i : ℕ). Freed b n urn i 0) {x = n} {y = suc (n - 1)} (omega arith) (freed_start b n urn h e)

pub loop-left-init : goal.loop-left-init
loop-left-init c = (
  from_last c.args.bytes c.args.slots c.fill.new.self c.requires.least
      (c.fill.ensures.after (λ y e. e) ∙ ap (λ (n : ℕ). replicate n 0) c.requires.size),
  refl,
)

pub bounds-urn-at : goal.bounds-urn-at
unfolding slot_bytes
bounds-urn-at c =
    let l = c.loop-left in
    let f = l.invariant.0 in
    omega (arith, slot_within l.left c.args.slots c.args.bytes (omega (arith, f.most)), f.size, l.invariant.1)

-- where the slot before a place starts
before : (n size : ℕ) → 0 < n → n * size - size ≡ (n - 1) * size
before n size h = omega (arith, ap (λ (m : ℕ). m * size) {x = n} {y = suc (n - 1)} (omega arith), suc-mul (n - 1) size)

-- a turn frees the slot `left`, which starts at `at`
turn : (b n left at first : ℕ) (urn : List ℕ) → 0 < left → at ≡ left * (2 + b) → Freed b n urn (suc left) first
    → Freed b n (set urn at first) (suc (left - 1)) left
unfolding slot_bytes
turn b n left at first urn h e f =
    let go : Freed b n (set urn (left * (2 + b)) first) left left = freed_go b n urn left (suc left) first refl (omega arith) f in
    subst (λ (i : ℕ). Freed b n (set urn at first) i left) {x = left} {y = suc (left - 1)} (omega arith)
    (subst (λ (p : ℕ). Freed b n (set urn p first) left left) (sym e) go)

pub loop-left-preserved : goal.loop-left-preserved
loop-left-preserved c =
    let l = c.loop-left in
    let size = 2 + c.args.bytes in (
      turn c.args.bytes c.args.slots l.left l.at l.first l.urn c.loop-left-test.true l.invariant.1 l.invariant.0,
      ap (λ (n : ℕ). n - size) l.invariant.1 ∙ before l.left size c.loop-left-test.true,
    )

pub bounds-urn-1 : goal.bounds-urn-1
bounds-urn-1 c =
    let l : 1 < length c.loop-left.urn =
    omega (arith, c.loop-left.invariant.0.size, size_least c.args.bytes c.args.slots c.requires.least) in
    l

pub returns : goal.returns
returns c =
    let l = c.loop-left in
    freed_done c.args.bytes c.args.slots l.urn l.first c.requires.least
    (subst (λ (i : ℕ). Freed c.args.bytes c.args.slots l.urn i l.first) {x = suc l.left} {y = 1} (omega (arith, c.loop-left-test.false)) l.invariant.0)

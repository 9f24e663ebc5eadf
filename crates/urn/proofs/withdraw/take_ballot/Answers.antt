-- `urn::withdraw::take_ballot` meets its contract: the stores leave the layout of the new chains.
-- Assumes nothing.
use mathlib.Core.Path.{◌≡◌, ◌∙◌, ap}
use Prim.Native.Nat.{ℕ, ◌+◌, ◌-◌, ◌*◌, ◌≤◌}
use native.Mathlib.Nat.{sub-zero}
use lib.Dec.{T}
use lib.ListN.{length, get_or, take, replicate, length-set, length-take}
use Rattle.jury.specs.Shape.{most_candidates, most_grades, graded_limits}
use Rattle.urn_chains.specs.Slots.{slots_of, slot_at}
use Rattle.urn_chains.specs.Chains.{chain}
use Rattle.urn_chains.specs.Sound.{jury_of_one, slot_count, urn_slots}
use Rattle.urn.specs.inner.Position.{position_in}
use Rattle.urn_chains.specs.inner.Position.{placed_at, position_of}
use Rattle.urn_chains.proofs.SlotTests.{few_bytes}
use Rattle.urn.proofs.FactLaws.{its_table, its_long}
use Rattle.urn.proofs.WithdrawnBytes.{take_zeros, slot_below, slot_inside, link_inside, withdraw_bytes}
use native.Mathlib.Omega.{arith}
use Rattle.urn.proofs.withdraw.take_ballot.Goals as goal
use Rattle.urn.proofs.withdraw.take_ballot.Goals.{Start}

limits : (s : Start) → T (graded_limits (jury_of_one s.args.k s.args.d))
limits s = s.requires.graded

small : (s : Start) → s.args.k * s.args.d ≤ most_candidates * most_grades
small s = few_bytes s.args.k s.args.d (limits s)

-- the juror whose ballot the slot holds
holder : (s : Start) → ℕ
holder s = (slot_at (urn_slots s.args.k s.args.d s.args.urn.now) s.args.slot).juror

-- where the ballot is, and the slot before it
told : (s : Start) →
    let a = s.args in
    position_of (slots_of (a.k * a.d) (slot_count (a.k * a.d) (length a.urn.now)) a.urn.now) (holder s) 0
    (chain (slot_count (a.k * a.d) (length a.urn.now)) (get_or a.urn.now 0 0)
    (slots_of (a.k * a.d) (slot_count (a.k * a.d) (length a.urn.now)) a.urn.now))
    ≡ placed_at a.before a.slot
unfolding position_in urn_slots holder
told s = s.requires.placed

at_inside : (s : Start) → s.args.slot * (2 + s.args.k * s.args.d) + (2 + s.args.k * s.args.d) ≤ length s.args.urn.now
at_inside s =
    let a = s.args in
    slot_inside a.k a.d a.urn.now (limits s) s.requires.is_sound (holder s) a.before a.slot (told s)

from_inside : (s : Start) → s.args.before * (2 + s.args.k * s.args.d) + (2 + s.args.k * s.args.d) ≤ length s.args.urn.now
from_inside s =
    let a = s.args in
    link_inside a.k a.d a.urn.now (limits s) s.requires.is_sound (holder s) a.before a.slot (told s)

pub overflow_mul-bytes : goal.overflow_mul-bytes
overflow_mul-bytes c = omega (arith, small (goal.at.overflow_mul-bytes c).Start)

pub overflow_add-size : goal.overflow_add-size
overflow_add-size c = omega (arith, small (goal.at.overflow_add-size c).Start)

pub overflow_mul-from : goal.overflow_mul-from
overflow_mul-from c = omega (arith, from_inside (goal.at.overflow_mul-from c).Start)

pub overflow_mul-at : goal.overflow_mul-at
overflow_mul-at c = omega (arith, at_inside (goal.at.overflow_mul-at c).Start)

pub bounds-urn-1 : goal.bounds-urn-1
bounds-urn-1 c = let l = its_long c.args.k c.args.d c.args.urn.now c.requires.graded c.requires.is_sound in
    omega arith

pub bounds-urn-at : goal.bounds-urn-at
bounds-urn-at c = omega (arith, at_inside (goal.at.bounds-urn-at c).Start)

pub bounds-urn-from : goal.bounds-urn-from
bounds-urn-from c = omega (arith, from_inside (goal.at.bounds-urn-from c).Start)

pub slice_bounds-put_slot-end : goal.slice_bounds-put_slot-end
slice_bounds-put_slot-end c = omega (arith, small (goal.at.slice_bounds-put_slot-end c).Start)

pub put_slot-requires : goal.put_slot-requires
put_slot-requires c = let a = c.args in
    omega (
      arith,
      at_inside (goal.at.put_slot-requires c).Start,
      length-set a.urn.now (a.before * (2 + a.k * a.d))
          (get_or a.urn.now (a.slot * (2 + a.k * a.d)) 0),
      length-take {A = ℕ} (a.k * a.d - 0) (replicate (most_candidates * most_grades) 0),
    )

pub overflow_cast-urn : goal.overflow_cast-urn
overflow_cast-urn c = let s = (goal.at.overflow_cast-urn c).Start in
    let a = c.args in
    omega (
      arith,
      slot_below a.k a.d a.urn.now (limits s) c.requires.is_sound (holder s) a.before
          a.slot (told s),
      (its_table a.k a.d a.urn.now (limits s) c.requires.is_sound).most,
    )

pub returns : goal.returns
unfolding holder
returns c = let s = (goal.at.returns c).Start in
    let a = c.args in
    withdraw_bytes a.k a.d a.urn.now (limits s) c.requires.is_sound (holder s) a.before a.slot
    (told s) (take (a.k * a.d - 0) (replicate (most_candidates * most_grades) 0)) c.put_slot.new.urn
    (ap (λ (m : ℕ). take {A = ℕ} m (replicate (most_candidates * most_grades) 0)) (sub-zero (a.k * a.d))
    ∙ take_zeros (a.k * a.d) (most_candidates * most_grades) (small s))
    c.put_slot.ensures

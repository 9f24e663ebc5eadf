-- `urn_run::load::load` meets its contract: writing the rest of the ballots after those written gives the table
-- that writing all gives.
-- Assumes nothing.
use Prim.Native.Nat.{◌<◌}
use native.Mathlib.Omega.{arith}
use lib.ListN.{length}
use Rattle.urn_chains.proofs.SlotTests.{few_bytes}
use Rattle.urn.proofs.FactLaws.{its_table, its_long}
use Rattle.urn_run.proofs.LoadedWires.{load_begin, load_end, loaded, turn_more, turn_inside, turn_room, turn_on}
use Rattle.urn_run.proofs.load.load.Goals as goal

pub overflow_mul-bytes : goal.overflow_mul-bytes
overflow_mul-bytes c = omega (arith, few_bytes c.args.k c.args.d c.requires.graded)

pub overflow_add-size : goal.overflow_add-size
overflow_add-size c = omega (arith, few_bytes c.args.k c.args.d c.requires.graded)

pub bounds-urn-0 : goal.bounds-urn-0
bounds-urn-0 c =
    let a = c.args in
    let l : 0 < length a.urn.now = omega (arith, its_long a.k a.d a.urn.now c.requires.graded c.requires.is_sound) in
    l

pub loop-slot-init : goal.loop-slot-init
loop-slot-init c =
    let a = c.args in
    load_begin a.k a.d a.urn.now c.requires.graded c.requires.is_sound a.wires.now c.from-slot.result
    c.requires.room c.from-slot.ensures

pub overflow_mul-at : goal.overflow_mul-at
overflow_mul-at c =
    let a = c.args in
    let l = c.loop-slot in
    let goes_on : 0 < l.slot = omega (arith, c.loop-slot-test.true) in
    omega (arith, turn_inside a.k a.d a.urn.now c.requires.graded c.requires.is_sound _ _ l.wires l.count l.slot l.invariant goes_on)

pub overflow_add-from : goal.overflow_add-from
overflow_add-from c =
    let a = c.args in
    let l = c.loop-slot in
    let goes_on : 0 < l.slot = omega (arith, c.loop-slot-test.true) in
    omega (arith, turn_inside a.k a.d a.urn.now c.requires.graded c.requires.is_sound _ _ l.wires l.count l.slot l.invariant goes_on)

pub overflow_add-end : goal.overflow_add-end
overflow_add-end c =
    let a = c.args in
    let l = c.loop-slot in
    let goes_on : 0 < l.slot = omega (arith, c.loop-slot-test.true) in
    omega (arith, turn_inside a.k a.d a.urn.now c.requires.graded c.requires.is_sound _ _ l.wires l.count l.slot l.invariant goes_on)

pub overflow_mul-to : goal.overflow_mul-to
overflow_mul-to c =
    let a = c.args in
    let l = c.loop-slot in
    let goes_on : 0 < l.slot = omega (arith, c.loop-slot-test.true) in
    omega (arith, turn_room a.k a.d a.urn.now c.requires.graded c.requires.is_sound _ _ l.wires l.count l.slot l.invariant goes_on, l.invariant.kept)

pub bounds-urn-at : goal.bounds-urn-at
bounds-urn-at c =
    let a = c.args in
    let l = c.loop-slot in
    let goes_on : 0 < l.slot = omega (arith, c.loop-slot-test.true) in
    omega (arith, turn_inside a.k a.d a.urn.now c.requires.graded c.requires.is_sound _ _ l.wires l.count l.slot l.invariant goes_on)

pub overflow_add-count : goal.overflow_add-count
overflow_add-count c =
    let a = c.args in
    let l = c.loop-slot in
    let goes_on : 0 < l.slot = omega (arith, c.loop-slot-test.true) in
    omega (
      arith,
      turn_more a.k a.d a.urn.now c.requires.graded c.requires.is_sound _ _ l.wires l.count l.slot l.invariant goes_on,
      (its_table a.k a.d a.urn.now c.requires.graded c.requires.is_sound).most,
    )

pub loop-slot-smaller : goal.loop-slot-smaller
loop-slot-smaller c =
    let a = c.args in
    let l = c.loop-slot in
    let goes_on : 0 < l.slot = omega (arith, c.loop-slot-test.true) in
    omega (arith, turn_more a.k a.d a.urn.now c.requires.graded c.requires.is_sound _ _ l.wires l.count l.slot l.invariant goes_on)

pub overflow_add-to : goal.overflow_add-to
overflow_add-to c =
    let a = c.args in
    let l = c.loop-slot in
    let goes_on : 0 < l.slot = omega (arith, c.loop-slot-test.true) in
    omega (arith, turn_room a.k a.d a.urn.now c.requires.graded c.requires.is_sound _ _ l.wires l.count l.slot l.invariant goes_on, l.invariant.kept)

pub slice_bounds-copy-end-in-loop-slot : goal.slice_bounds-copy-end-in-loop-slot
slice_bounds-copy-end-in-loop-slot c =
    let a = c.args in
    let l = c.loop-slot in
    let goes_on : 0 < l.slot = omega (arith, c.loop-slot-test.true) in
    turn_room a.k a.d a.urn.now c.requires.graded c.requires.is_sound _ _ l.wires l.count l.slot l.invariant goes_on

pub slice_bounds-copy-end : goal.slice_bounds-copy-end
slice_bounds-copy-end c =
    let a = c.args in
    let l = c.loop-slot in
    let goes_on : 0 < l.slot = omega (arith, c.loop-slot-test.true) in
    turn_inside a.k a.d a.urn.now c.requires.graded c.requires.is_sound _ _ l.wires l.count l.slot l.invariant goes_on

pub loop-slot-preserved : goal.loop-slot-preserved
loop-slot-preserved c =
    let a = c.args in
    let l = c.loop-slot in
    let goes_on : 0 < l.slot = omega (arith, c.loop-slot-test.true) in
    turn_on a.k a.d a.urn.now c.requires.graded c.requires.is_sound _ _ l.wires l.count l.slot l.invariant goes_on
    _ _ c.copy.ensures c.from-slot-in-loop-slot.ensures

pub returns : goal.returns
returns c =
    let a = c.args in
    let l = c.loop-slot in
    loaded a.k a.d a.urn.now c.requires.graded c.requires.is_sound a.wires.now l.wires c.requires.room
    (load_end _ _ _ _ _ l.wires l.count l.slot l.invariant c.loop-slot-test.false)

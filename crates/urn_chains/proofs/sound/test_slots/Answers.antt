-- `urn_chains::sound::test_slots` meets its contract: the program's tests all pass exactly if the slots are sound.
-- Assumes nothing.
use mathlib.Core.Path.{◌≡◌, ◌∙◌, sym, ap}
use Prim.Native.Nat.{ℕ, ◌+◌, ◌*◌, ◌-◌}
use lib.ListN.{get_or, take, drop}
use Rattle.urn_chains.specs.Slots.{slots_of}
use Rattle.urn_chains.specs.Sound.{all_zero}
use Rattle.urn_chains.specs.inner.Walk.{free_from}
use Rattle.urn_chains.proofs.SlotLaws.{size_is, slot_within}
use Rattle.urn_chains.proofs.Walks.{chain_most, walk_told, walk_untold}
use Rattle.urn_chains.proofs.SlotTests.{clash, unsound, sound_is, tests_sound, count_by_bytes}
use native.Mathlib.Omega.{arith}
use Rattle.urn_chains.proofs.sound.test_slots.Goals as goal
use Rattle.urn_chains.proofs.sound.test_slots.Goals.{After-is_zero}

-- the test of slot 0, from its bytes
head_told : (c : After-is_zero) → all_zero (take (c.args.k * c.args.d) (drop 2 c.args.urn.now)) ≡ c.is_zero.result
head_told c =
    ap (λ (n : ℕ). all_zero (take n (drop 2 c.args.urn.now))) {x = c.args.k * c.args.d} {y = 2 + c.args.k * c.args.d - 2} (omega arith)
    ∙ sym c.is_zero.ensures

pub slice_bounds-is_zero-end : goal.slice_bounds-is_zero-end
slice_bounds-is_zero-end c =
    let a = c.args in
    let p = c.requires.table in
    omega (arith, slot_within 0 a.slots (a.k * a.d) (omega (arith, p.least)), p.size, size_is (a.k * a.d))

pub returns-then-not-is_zero : goal.returns-then-not-is_zero
returns-then-not-is_zero c = unsound _ _ _ _ c.requires.table
    (λ t. clash _ t.head (head_told (goal.at.returns-then-not-is_zero c).After-is_zero ∙ c.if-not-is_zero.true)) _

pub returns-in_err-ballots : goal.returns-in_err-ballots
returns-in_err-ballots c = rw c.from_residual.ensures
    (unsound _ _ _ _ c.requires.table (λ t. clash _ t.ballots (walk_untold _ _ _ c.in_err-ballots.ensures)) _)

pub returns-in_err-free : goal.returns-in_err-free
returns-in_err-free c =
    let w = walk_told _ _ _ _ c.in_ok-ballots.ensures in
    let a = c.args in
    let free = free_from (slots_of (a.k * a.d) a.slots a.urn.now) a.slots (get_or a.urn.now 1 0) in
    rw c.from_residual-in_err-free.ensures (unsound _ _ _ _ c.requires.table
    (λ t. clash _ t.free (ap free (sym w.1) ∙ walk_untold _ _ _ c.in_err-free.ensures)) _)

pub overflow_add-ballots : goal.overflow_add-ballots
overflow_add-ballots c =
    let a = c.args in
    let ss = slots_of (a.k * a.d) a.slots a.urn.now in
    let w = walk_told _ _ _ _ c.in_ok-ballots.ensures in
    let f = walk_told _ _ _ _ c.in_ok-free.ensures in
    omega (
      arith,
      w.2,
      f.2,
      chain_most a.slots (get_or a.urn.now 0 0) ss,
      chain_most a.slots (get_or a.urn.now 1 0) ss,
      c.requires.table.most,
    )

pub returns-then-ballots-free : goal.returns-then-ballots-free
returns-then-ballots-free c =
    let w = walk_told _ _ _ _ c.in_ok-ballots.ensures in
    let f = walk_told _ _ _ _ c.in_ok-free.ensures in
    unsound _ _ _ _ c.requires.table (λ t. c.if-ballots-free.true (omega (arith, w.2, f.2, t.count))) _

pub returns : goal.returns
returns c =
    let a = c.args in
    let w = walk_told _ _ _ _ c.in_ok-ballots.ensures in
    let f = walk_told _ _ _ _ c.in_ok-free.ensures in
    let free = free_from (slots_of (a.k * a.d) a.slots a.urn.now) a.slots (get_or a.urn.now 1 0) in
    sound_is _ _ _
    (tests_sound a.k a.d a.slots a.urn.now c.requires.table
    (record {
      head = head_told (goal.at.returns c).After-is_zero ∙ c.if-not-is_zero.false;
      ballots = w.0;
      free = ap free (sym w.1) ∙ f.0;
      count = omega (arith, w.2, f.2, c.if-ballots-free.false);
    }))
    (w.2 ∙ sym (count_by_bytes (a.k * a.d) a.slots a.urn.now c.requires.table))

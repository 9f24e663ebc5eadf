-- `urn::admit::put_ballot` meets its contract: the stores leave the layout of the new chains.
-- Assumes nothing.
use mathlib.Core.Path.{◌≡◌, ◌∙◌, ap}
use Prim.Native.Nat.{ℕ, ◌+◌, ◌*◌, ◌≤◌}
use mathlib.Core.List.{◌∷◌, ◌++◌}
use lib.ListN.{length, get_or, set, take, drop}
use Rattle.urn_chains.proofs.GoodBallots.{juror_most}
use Rattle.urn.proofs.FactLaws.{its_long}
use Rattle.urn.proofs.AdmittedBytes.{free_inside, admit_bytes}
use native.Mathlib.Omega.{arith}
use Rattle.urn.proofs.admit.put_ballot.Goals as goal
use Rattle.urn.proofs.admit.put_ballot.Goals.{After-from, Start}

inside : (s : Start) → get_or s.args.urn.now 1 0 * (2 + s.args.k * s.args.d)
    + (2 + s.args.k * s.args.d) ≤ length s.args.urn.now
inside s =
    let a = s.args in
    free_inside a.k a.d a.urn.now (s.requires.graded) s.requires.is_sound s.requires.room

-- the slot's place, from the byte that names it
placed : (c : After-from) →
    let a = c.args in
    c.from.result * (2 + a.k * a.d) ≡ get_or a.urn.now 1 0 * (2 + a.k * a.d)
placed c = let a = c.args in ap (λ (m : ℕ). m * (2 + a.k * a.d)) c.from.ensures

pub bounds-urn-0 : goal.bounds-urn-0
bounds-urn-0 c = let l = its_long c.args.k c.args.d c.args.urn.now c.requires.graded c.requires.is_sound in
    omega arith

pub bounds-urn-1 : goal.bounds-urn-1
bounds-urn-1 c = let l = its_long c.args.k c.args.d c.args.urn.now c.requires.graded c.requires.is_sound in
    omega arith

pub overflow_mul-at : goal.overflow_mul-at
overflow_mul-at c = omega (arith, placed (goal.at.overflow_mul-at c).After-from, inside (goal.at.overflow_mul-at c).Start)

pub bounds-urn-at : goal.bounds-urn-at
bounds-urn-at c = omega (arith, placed (goal.at.bounds-urn-at c).After-from, inside (goal.at.bounds-urn-at c).Start)

pub overflow_cast-juror : goal.overflow_cast-juror
overflow_cast-juror c = omega (arith, juror_most c.args.juror c.requires.numbered)

pub put_slot-requires : goal.put_slot-requires
put_slot-requires c = omega (arith, placed (goal.at.put_slot-requires c).After-from, inside (goal.at.put_slot-requires c).Start, c.requires.size)

pub returns : goal.returns
returns c = let a = c.args in
    let z = 2 + a.k * a.d in
    let u = a.urn.now in
    let last = c.put_slot.new.urn in
    ap (λ (m : ℕ). set (set last 0 (get_or u 1 0)) 1 (get_or u (m * z) 0)) c.from.ensures
    ∙ admit_bytes a.k a.d u (c.requires.graded) c.requires.is_sound c.requires.room a.juror a.ballot.now last c.requires.size
    (c.put_slot.ensures ∙ ap (λ (m : ℕ). take (m * z) u
    ++ (get_or u 0 0 ∷ a.juror ∷ a.ballot.now) ++ drop (m * z + 2 + length a.ballot.now) u) c.from.ensures)

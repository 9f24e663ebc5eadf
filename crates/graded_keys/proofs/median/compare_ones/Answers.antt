-- `graded_keys::median::compare_ones` meets its contract: the lowest digit, then those above it.
-- Assumes nothing.
use mathlib.Core.Path.{◌≡◌, ◌∙◌, refl, ap, subst}
use Prim.Native.Nat.{ℕ, suc, ◌+◌, ◌-◌, ◌/◌, ◌<◌}
use native.Mathlib.Numerals.{add-one}
use native.Mathlib.Omega.{arith}
use Rattle.gate_words.proofs.Writing.{room_less}
use Rattle.gate_words.proofs.Standing.{Stands, stands, stands_after, wrote_then}
use Rattle.graded_circuit.specs.Median.{Fits, differ_at, difference_span, later_digits, later_span, compare_ones, ones_span}
use Rattle.graded_circuit.proofs.MedianLaws.{fits_some, fits_half, half_apart, ones_span_lem, length_difference}
use Rattle.graded_keys.proofs.median.compare_ones.Goals as goal
use Rattle.graded_keys.proofs.median.compare_ones.Goals.{After-digit_difference-differ, Start}

fits : (s : Start) → Fits s.args.count (suc s.args.above)
fits s = subst (Fits s.args.count) (add-one s.args.above) s.requires.fits

some : (s : Start) → 0 < s.args.count
some s = fits_some s.args.count s.args.above (fits s)

-- the number of gates, as that of the lowest digit plus that of the others
parts : (s : Start) → ones_span s.args.count s.args.above ≡ difference_span s.args.count
    + later_span (s.args.count / 2) s.args.above
parts s = ones_span_lem s.args.count s.args.above

pub chain_end-left-requires : goal.chain_end-left-requires
chain_end-left-requires c = omega (arith, c.requires.ones.room.small, parts (goal.at.chain_end-left-requires c).Start)

pub digit_difference-differ-requires : goal.digit_difference-differ-requires
digit_difference-differ-requires c = let q = c.requires.ones in
    record {
      ones = record {
        room = room_less c.args.w _ (ones_span c.args.count c.args.above)
            (omega (arith, parts (goal.at.digit_difference-differ-requires c).Start)) q.room;
        first_below = q.first_below;
        second_below = q.second_below;
        short =
            q.short;
      };
      some = some (goal.at.digit_difference-differ-requires c).Start;
    }

difference : (c : After-digit_difference-differ) → let s = c in
    Stands c.digit_difference-differ.result (s.args.w.wire + difference_span s.args.count)
    (later_span (s.args.count / 2) s.args.above)
difference c =
    let a = c.args in
    stands_after a.w a.table.now _ c.digit_difference-differ.new.table c.digit_difference-differ.result _ _ _
    c.digit_difference-differ.ensures (length_difference a.w.wire a.x a.y a.stride a.count)
    (stands a.w a.w.wire _ _ refl (omega (arith, parts c.before.before.before.before)) c.requires.ones.room)

pub later_digits-requires : goal.later_digits-requires
later_digits-requires c = let a = c.args in
    let q = c.requires.ones in
    let half = half_apart a.count a.stride in
    record {
      ones = record {
        room = (difference (goal.at.later_digits-requires c).After-digit_difference-differ).left;
        first_below = omega (arith, q.first_below, (difference (goal.at.later_digits-requires c).After-digit_difference-differ).place);
        second_below = omega (arith, q.second_below, (difference (goal.at.later_digits-requires c).After-digit_difference-differ).place);
        short = omega (arith, q.short);
      };
      fits = fits_half a.count a.above (fits (goal.at.later_digits-requires c).Start);
    }

pub returns : goal.returns
unfolding compare_ones
returns c = let v = c.later_digits in
    let a = c.args in
    let n = a.w.wire in
    let m = a.count in
    let d = c.digit_difference-differ in
    let left = c.chain_end-left in
    let q = differ_at n m in
    let e₁ : d.result.wire ≡ q + 1 = omega (arith, (difference (goal.at.returns c).After-digit_difference-differ).place) in
    let e₂ : d.result.wire - 1 ≡ q = omega (arith, (difference (goal.at.returns c).After-digit_difference-differ).place) in
    let x = a.x + a.stride in
    let y = a.y + a.stride in
    let z = a.stride + a.stride in
    wrote_then a.w a.table.now _ d.new.table d.result _ _ v.new.table v.result d.ensures v.ensures
    (ap (λ (k : ℕ). later_digits k x y z (m / 2) (d.result.wire - 1) left.result a.above) e₁
    ∙ ap (λ (k : ℕ). later_digits (q + 1) x y z (m / 2) k left.result a.above) e₂
    ∙ ap (λ (k : ℕ). later_digits (q + 1) x y z (m / 2) q k a.above) left.ensures)

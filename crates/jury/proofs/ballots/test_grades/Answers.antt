-- `jury::ballots::test_grades` meets its contract: the first bad row of the rest is the first bad row of all.
-- Assumes nothing.
use mathlib.Core.Path.{◌≡◌, ◌∙◌, sym, ap}
use mathlib.Core.List.{List, [], ◌∷◌}
use Prim.Native.Nat.{ℕ, ◌+◌, ◌-◌, ◌*◌}
use native.Mathlib.Nat.{suc-mul, add-sub_cancel_left}
use native.Mathlib.Numerals.{add-one}
use native.Mathlib.Omega.{arith}
use lib.ListN.{take, drop, length-take}
use lib.Seq.{drop-drop}
use Rattle.std.specs.List.{sum}
use Rattle.std.specs.Prelude as prelude
use Rattle.basics.proofs.Arithmetic.{row_within}
use Rattle.gates.specs.Board.{Bits}
use Rattle.jury.specs.Reason.{reason_of, refused_for, found_at, first_of}
use Rattle.jury.specs.Ballots.{ones, rows_of, first_bad_row, graded_reasons}
use Rattle.jury.proofs.Limits.{within_T}
use Rattle.jury.proofs.BallotLaws.{bits_sum, part_bits, bad_here, bad_later, bad_end}
use Rattle.jury.proofs.ballots.test_grades.Goals as goal

pub slice_bounds-row_sum-end : goal.slice_bounds-row_sum-end
slice_bounds-row_sum-end c =
    let s = c.args.shape in
    omega (arith, c.requires.sized.size, row_within c.loop-r.r (s.ballots * s.candidates) s.grades c.loop-r-test.true)

pub row_sum-requires : goal.row_sum-requires
row_sum-requires c =
    let s = c.args.shape in
    let at = c.loop-r.r * s.grades in
    let w = within_T s c.requires.sized.within in
    omega (arith, w.d_most, length-take (at + s.grades - at) (drop at c.args.ballots.now))

-- a row's sum is the number of its ones
counted : (xs : List ℕ) (at d r : ℕ) → Bits xs → r ≡ sum (take (at + d - at) (drop at xs)) → r ≡ ones (take d (drop at xs))
counted xs at d r b s =
    s ∙ ap (λ (n : ℕ). sum (take n (drop at xs))) (add-sub_cancel_left at d) ∙ bits_sum (take d (drop at xs)) (part_bits xs at d b)

pub returns-then-row_sum-ne1 : goal.returns-then-row_sum-ne1
unfolding refused_for graded_reasons reason_of found_at first_of
returns-then-row_sum-ne1 c =
    let s = c.args.shape in
    let d = s.grades in
    let xs = c.args.ballots.now in
    let i = c.loop-r.r in
    let bad =
    sym c.loop-r.invariant
    ∙ bad_here d i (s.ballots * s.candidates) (drop (i * d) xs) c.loop-r-test.true
    (λ e. c.if-row_sum-ne1.true (counted xs (i * d) d c.row_sum.result c.requires.bits c.row_sum.ensures ∙ e)) in
    sym (ap (λ (p : prelude.Option ℕ). first_of (found_at 6 p ∷ [])) bad)

pub loop-r-preserved : goal.loop-r-preserved
loop-r-preserved c =
    let s = c.args.shape in
    let d = s.grades in
    let rows = s.ballots * s.candidates in
    let xs = c.args.ballots.now in
    let i = c.loop-r.r in
    ap (λ (ys : List ℕ). first_bad_row (i + 1) (rows_of d (rows - (i + 1)) ys)) (rows_left i d xs)
    ∙ ap (λ (n : ℕ). first_bad_row n (rows_of d (rows - n) (drop d (drop (i * d) xs)))) (add-one i)
    ∙ sym (bad_later d i rows (drop (i * d) xs) c.loop-r-test.true
    (sym (counted xs (i * d) d c.row_sum.result c.requires.bits c.row_sum.ensures) ∙ c.if-row_sum-ne1.false))
    ∙ c.loop-r.invariant
  where
    rows_left : (i d : ℕ) (xs : List ℕ) → drop ((i + 1) * d) xs ≡ drop d (drop (i * d) xs)
    rows_left i d xs = ap (λ (n : ℕ). drop n xs) (omega (arith, ap (λ (n : ℕ). n * d) (add-one i), suc-mul i d)) ∙ sym (drop-drop d (i * d) xs)

pub returns : goal.returns
unfolding refused_for graded_reasons found_at first_of
returns c =
    let s = c.args.shape in
    let d = s.grades in
    let i = c.loop-r.r in
    sym (ap (λ (p : prelude.Option ℕ). first_of (found_at 6 p ∷ []))
    (sym c.loop-r.invariant ∙ bad_end d i (s.ballots * s.candidates) (drop (i * d) c.args.ballots.now) c.loop-r-test.false))

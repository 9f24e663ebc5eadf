-- `jury::counts::counts` meets its contract: after b turns the array holds the counts of the first b ballots.
-- Assumes nothing.
use mathlib.Core.Path.{◌∙◌, sym, ap}
use mathlib.Core.List.{List, []}
use Prim.Native.Nat.{ℕ, ◌+◌, ◌-◌, ◌*◌, ◌≤◌, ◌<◌}
use native.Mathlib.Nat.{mul-le-mul, mul_assoc, add-sub_cancel_left}
use native.Mathlib.Numerals.{add-one}
use native.Mathlib.Omega.{arith}
use lib.ListN.{length, get_or, take, drop, length-take, length-drop}
use Rattle.basics.specs.Lists.{sum, tabulate}
use Rattle.basics.proofs.Arithmetic.{row_within}
use Rattle.jury.specs.declared.shape.Shape.{Shape}
use Rattle.jury.specs.Accepted.{GradedBallots}
use Rattle.jury.specs.inner.Counts.{rows_in, plus_ballot}
use Rattle.jury.proofs.Limits.{within, bytes_are}
use Rattle.jury.proofs.CountLaws.{array_after, array_eight_by_seven, array_start, array_step, array_end}
use Rattle.jury.proofs.CountFacts.{array_sum}
use Rattle.jury.proofs.counts.counts.Goals as goal

-- a ballot lies within the ballots
inside : (s : Shape) (xs : List ℕ) (b : ℕ) → GradedBallots s xs → b < s.ballots
    → b * (s.candidates * s.grades) + s.candidates * s.grades ≤ length xs
inside s xs b g h =
    omega (
      arith,
      g.size,
      bytes_are s (within s g.within),
      mul_assoc s.ballots s.candidates s.grades,
      row_within b s.ballots (s.candidates * s.grades) h,
    )

pub overflow_mul-size : goal.overflow_mul-size
overflow_mul-size c =
    let w = within c.args.shape c.requires.within in
    let most = mul-le-mul w.k_most w.d_most in
    omega arith

pub loop-b-init : goal.loop-b-init
unfolding tabulate
loop-b-init c = sym (array_start c.args.shape c.args.ballots.now)

pub overflow_mul-at : goal.overflow_mul-at
overflow_mul-at c = omega (arith, inside c.args.shape c.args.ballots.now c.loop-b.b c.requires c.loop-b-test.true)

pub overflow_add-at : goal.overflow_add-at
overflow_add-at c = omega (arith, inside c.args.shape c.args.ballots.now c.loop-b.b c.requires c.loop-b-test.true)

pub slice_bounds-add_ballot-end : goal.slice_bounds-add_ballot-end
slice_bounds-add_ballot-end c = inside c.args.shape c.args.ballots.now c.loop-b.b c.requires c.loop-b-test.true

pub add_ballot-requires : goal.add_ballot-requires
add_ballot-requires c =
    let s = c.args.shape in
    let xs = c.args.ballots.now in
    let b = c.loop-b.b in
    let size = s.candidates * s.grades in
    let w = within s c.requires.within in
    record {
      few_rows = w.k_most;
      few_columns = w.d_most;
      size = omega (
        arith,
        inside s xs b c.requires c.loop-b-test.true,
        length-take (b * size + size - b * size) (drop (b * size) xs),
        length-drop (b * size) xs,
      );
      array = rw c.loop-b.invariant (array_eight_by_seven s xs b (omega (arith, w.n_most)));
    }

pub loop-b-preserved : goal.loop-b-preserved
loop-b-preserved c =
    let s = c.args.shape in
    let xs = c.args.ballots.now in
    let b = c.loop-b.b in
    let size = s.candidates * s.grades in
    c.add_ballot.ensures
    ∙ ap (λ (m : List (List ℕ)). plus_ballot s.candidates s.grades m (take (b * size + size - b * size) (drop (b * size) xs))) c.loop-b.invariant
    ∙ ap (λ (n : ℕ). plus_ballot s.candidates s.grades (array_after s xs b) (take n (drop (b * size) xs))) (add-sub_cancel_left (b * size) size)
    ∙ array_step s xs c.requires.bits b
    ∙ ap (array_after s xs) (sym (add-one b))

pub returns : goal.returns
returns c =
    let s = c.args.shape in
    let xs = c.args.ballots.now in
    let e = c.loop-b.invariant ∙ ap (array_after s xs) {x = c.loop-b.b} {y = s.ballots} (omega arith) ∙ array_end s xs in
    record {
      array = e;
      add_up = λ j h. ap (λ (m : List (List ℕ)). sum (get_or (rows_in s.candidates s.grades m) j [])) e ∙ array_sum s xs c.requires j h;
    }

-- In each lane, the faults so far and those of the rest are the faults of all rows.
use Rattle.std.proofs.Common.{◌≡◌, ◌∙◌, sym, ap, cond, List, ℕ, ◌*◌, arith, Option, max, eqb, take, drop}
use native.Mathlib.Nat.{add-sub_cancel_left, max-zero}
use Rattle.jury.specs.Ballots.{ones}
use Rattle.jury.proofs.BallotLaws.{bad_end}
use Rattle.batch_lanes.specs.Lane.{lane, lane_of}
use Rattle.batch_lanes.proofs.ListLaws.{lanes_take, lanes_drop}
use Rattle.batch.specs.inner.Found.{found_bit}
use Rattle.batch.proofs.RowLaws.{rows_start, rows_more}
use Rattle.batch.proofs.ballots.bad_rows.Goals as goal

pub loop-row-init : goal.loop-row-init
loop-row-init c = let a = c.args in λ j h. rows_start j a.d a.rows (lane_of j a.words.now)

pub loop-row-preserved : goal.loop-row-preserved
loop-row-preserved c =
    let a = c.args in
    let l = c.loop-row in
    let at = l.row * a.d in
    let fault = c.bad_row-faults in
    λ j h.
    let xs = lane_of j a.words.now in
    let says : lane j fault.result ≡ cond (eqb (ones (take a.d (drop at xs))) 1) 0 1 =
    fault.ensures j h
    ∙ ap (λ (l : List ℕ). cond {A = ℕ} (eqb (ones l) 1) 0 1)
    (ap (λ (n : ℕ). lane_of j (take n (drop at a.words.now))) (add-sub_cancel_left at a.d)
    ∙ lanes_take j a.d (drop at a.words.now) ∙ ap (take a.d) (lanes_drop j at a.words.now)) in
    rows_more j a.d l.row a.rows l.faults fault.result xs c.loop-row-test.true says ∙ l.invariant j h

pub returns : goal.returns
unfolding found_bit
returns c =
    let a = c.args in
    let l = c.loop-row in
    λ j h.
    sym (max-zero (lane j l.faults))
    ∙ ap (λ (p : Option ℕ). max (lane j l.faults) (found_bit p))
    (sym (bad_end a.d l.row a.rows (drop (l.row * a.d) (lane_of j a.words.now)) (omega arith)))
    ∙ l.invariant j h

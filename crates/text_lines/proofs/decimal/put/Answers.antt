-- `text_lines::decimal::put` meets its contract: a turn stores the last digit, and the digits of the tenth go
-- before it.
-- Assumes nothing.
use mathlib.Core.Path.{refl}
use mathlib.Core.Path.{◌∙◌}
use Prim.Native.Nat.{◌/◌}
use lib.ListN.{length-set}
use Rattle.text_lines.proofs.DecimalLaws.{length_positive}
use Rattle.text_lines.proofs.Storing.{length_tenth, store_last, store_first}
use native.Mathlib.Omega.{arith}
use Rattle.text_lines.proofs.decimal.put.Goals as goal

pub overflow_sub-i : goal.overflow_sub-i
overflow_sub-i c = omega (arith, length_positive c.args.n)

pub loop-rest-init : goal.loop-rest-init
loop-rest-init c = let p = length_positive c.args.n in
    (omega arith, omega (arith, c.count.ensures), omega (arith, c.count.ensures), refl, refl)

pub overflow_sub-i-in-loop-rest : goal.overflow_sub-i-in-loop-rest
overflow_sub-i-in-loop-rest c = omega (
  arith,
  length_tenth c.loop-rest.rest c.loop-rest-test.true
      c.loop-rest.invariant.0,
  length_positive (c.loop-rest.rest / 10),
)

pub loop-rest-preserved : goal.loop-rest-preserved
loop-rest-preserved c = let l = c.loop-rest in
    let a = c.args in
    let more = c.loop-rest-test.true in
    let tenth = length_tenth l.rest more l.invariant.0 in
    let some = length_positive (l.rest / 10) in
    let long = length-set l.output l.i c.digit.result in (
      omega arith,
      omega arith,
      omega arith,
      omega arith,
      store_last l.output a.at l.i l.rest c.digit.result more l.invariant.0 c.digit.ensures l.invariant.1 ∙ l.invariant.4,
    )

pub returns : goal.returns
returns c = let l = c.loop-rest in
    let a = c.args in
    record {
      next = omega (arith, c.count.ensures);
      is = store_first l.output a.at l.i l.rest c.digit-2.result c.loop-rest-test.false
          c.digit-2.ensures l.invariant.1 ∙ l.invariant.4;
    }

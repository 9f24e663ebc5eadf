-- `text_lines::decimal::digits` meets its contract: reading on from here gives what reading from the start gives.
-- Assumes nothing.
use mathlib.Core.Path.{◌∙◌, sym}
use lib.ListN.{get_or}
use Rattle.text_lines.specs.Decimal.{is_digit}
use Rattle.text_lines.specs.inner.Found.{number_found}
use Rattle.text_lines.proofs.DecimalLaws.{digit_is, digits_stop, digits_all, digits_step, digits_over}
use native.Mathlib.Omega.{arith}
use Rattle.text_lines.proofs.decimal.digits.Goals as goal

pub returns-then-not-is_ascii_digit : goal.returns-then-not-is_ascii_digit
unfolding number_found is_digit
returns-then-not-is_ascii_digit c =
    let other = sym c.is_ascii_digit.ensures.value ∙ c.if-not-is_ascii_digit.true in
    record { found = sym (digits_stop _ _ _ c.loop-i-test.true other) ∙ c.loop-i.invariant.1; within = omega arith }

pub overflow_sub-c : goal.overflow_sub-c
unfolding is_digit
overflow_sub-c c =
    let digit = sym c.is_ascii_digit.ensures.value ∙ c.if-not-is_ascii_digit.false in
    omega (arith, digit_is (get_or c.args.text.now c.loop-i.i 0) digit)

pub returns-then-value-gt-LARGEST : goal.returns-then-value-gt-LARGEST
unfolding number_found is_digit
returns-then-value-gt-LARGEST c =
    let digit = sym c.is_ascii_digit.ensures.value ∙ c.if-not-is_ascii_digit.false in
    record {
      found = sym (digits_over _ _ _ c.loop-i-test.true digit (omega arith)) ∙ c.loop-i.invariant.1;
      within = tt;
    }

pub loop-i-preserved : goal.loop-i-preserved
unfolding is_digit
loop-i-preserved c =
    let digit = sym c.is_ascii_digit.ensures.value ∙ c.if-not-is_ascii_digit.false in (
      omega arith,
      rw c.from.ensures (sym (digits_step _ _ _ c.loop-i-test.true digit (omega arith)) ∙ c.loop-i.invariant.1),
    )

pub returns : goal.returns
unfolding number_found
returns c = record { found = sym (digits_all _ _ _ c.loop-i-test.false) ∙ c.loop-i.invariant.1; within = omega arith }

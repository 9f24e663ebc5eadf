-- `text_lines::decimal::number` meets its contract.
-- Assumes nothing.
use mathlib.Core.Path.{◌∙◌, sym}
use lib.ListN.{get_or}
use Rattle.text_lines.specs.Decimal.{is_digit}
use Rattle.text_lines.specs.inner.Found.{number_found}
use Rattle.text_lines.proofs.DecimalLaws.{digit_is, number_none, number_other, number_zero, number_digits}
use native.Mathlib.Omega.{arith}
use Rattle.text_lines.proofs.decimal.number.Goals as goal

pub returns-then-text-at : goal.returns-then-text-at
unfolding number_found
returns-then-text-at c = record { found = sym (number_none _ _ c.if-text-at.true); within = tt }

pub returns-then-not-is_ascii_digit : goal.returns-then-not-is_ascii_digit
unfolding number_found is_digit
returns-then-not-is_ascii_digit c =
    let other = sym c.is_ascii_digit.ensures.value ∙ c.if-not-is_ascii_digit.true in
    record { found = sym (number_other _ _ c.if-text-at.false other); within = tt }

pub returns-then-alone : goal.returns-then-alone
unfolding number_found
returns-then-alone c =
    record { found = sym (number_zero _ _ c.if-text-at.false c.if-alone.true); within = omega arith }

pub overflow_sub-c : goal.overflow_sub-c
unfolding is_digit
overflow_sub-c c =
    let digit = sym c.is_ascii_digit.ensures.value ∙ c.if-not-is_ascii_digit.false in
    omega (arith, digit_is (get_or c.args.text.now c.args.at 0) digit)

pub returns : goal.returns
unfolding is_digit
returns c =
    let digit = sym c.is_ascii_digit.ensures.value ∙ c.if-not-is_ascii_digit.false in
    rw (number_digits _ _ c.if-text-at.false digit c.if-alone.false, ← c.from.ensures) c.digits.ensures

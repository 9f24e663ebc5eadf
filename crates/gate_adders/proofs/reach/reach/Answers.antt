-- `gate_adders::reach::reach` meets its contract: one digit, or two halves.
-- Assumes nothing.
use native.Mathlib.Omega.{arith}
use Rattle.gate_words.proofs.Writing.{wrote_as, room_less}
use Rattle.gate_words.proofs.ReachLaws.{reach_one_digit, reach_more_digits, reach_last_some}
use Rattle.gate_adders.proofs.reach.reach.Goals as goal

pub returns-then-above-eq0 : goal.returns-then-above-eq0
returns-then-above-eq0 c =
    let a = c.args in
    wrote_as a.w a.table.now _ _ _ _
    (reach_one_digit a.w.wire a.x a.y a.bit a.above
    c.if-above-eq0.true) c.carry_bit.ensures

pub reach_halves-requires : goal.reach_halves-requires
reach_halves-requires c =
    let a = c.args in
    let more = c.if-above-eq0.false in
    let e = reach_last_some a.above (omega arith) in
    record {
      room = room_less a.w _ _ (omega arith) c.requires.room;
      first_below = omega (arith, c.requires);
      second_below = omega (arith, c.requires);
    }

pub returns : goal.returns
returns c =
    let a = c.args in
    let more = c.if-above-eq0.false in
    wrote_as a.w a.table.now _ _ _ _
    (reach_more_digits a.w.wire a.x a.y a.bit a.above (omega arith))
    c.reach_halves.ensures

-- `batch_lanes::word::value` meets its contract: in every lane, the word of each arm is the value of its kind.
-- Assumes nothing.
use Rattle.batch_lanes.proofs.ValueLaws.{zero_lane, one_lane, copy_lane, not_lane, and_lane, or_lane, xor_lane, choice_lane}
use Rattle.batch_lanes.proofs.word.value.Goals as goal

pub returns-in-0 : goal.returns-in-0
returns-in-0 c = let x = c.args in λ j h. rw c.in-0.is (zero_lane j h x.a x.b x.c)

pub returns-in-1 : goal.returns-in-1
returns-in-1 c = let x = c.args in λ j h. rw c.in-1.is (one_lane j h x.a x.b x.c)

pub returns-in-2 : goal.returns-in-2
returns-in-2 c = let x = c.args in λ j h. rw c.in-2.is (copy_lane j h x.a x.b x.c)

pub returns-in-3 : goal.returns-in-3
returns-in-3 c = let x = c.args in λ j h. rw c.in-3.is (not_lane j h x.a x.b x.c)

pub returns-in-4 : goal.returns-in-4
returns-in-4 c = let x = c.args in λ j h. rw c.in-4.is (and_lane j h x.a x.b x.c)

pub returns-in-5 : goal.returns-in-5
returns-in-5 c = let x = c.args in λ j h. rw c.in-5.is (or_lane j h x.a x.b x.c)

pub returns-in-6 : goal.returns-in-6
returns-in-6 c = let x = c.args in λ j h. rw c.in-6.is (xor_lane j h x.a x.b x.c)

pub returns-in-7 : goal.returns-in-7
returns-in-7 c = let x = c.args in λ j h. rw c.in-7.is (choice_lane j h x.a x.b x.c)

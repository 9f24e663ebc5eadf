-- `ranked_words::blocks::compare` meets its contract: the lowest digits, then the others.
-- Assumes nothing.
use mathlib.Core.Path.{◌≡◌, ap}
use Prim.Native.Nat.{ℕ, ◌+◌}
use native.Mathlib.Omega.{arith}
use Rattle.gate_words.specs.Comparison.{compare_words}
use Rattle.gate_words.proofs.Laws.{length_first_digit, length_compare}
use Rattle.ranked_circuit.specs.Blocks.{compare}
use Rattle.ranked_words.proofs.Behind.{behind, room_behind}
use Rattle.gate_words.proofs.Standing.{wrote_then}
use Rattle.ranked_words.proofs.blocks.compare.Goals as goal
use Rattle.ranked_words.proofs.blocks.compare.Goals.{After-first_digit-first}

-- the writer after the lowest digits
lowest : (c : After-first_digit-first) → c.first_digit-first.result.wire ≡ c.args.w.wire + 3
lowest c = behind c.args.w c.args.table.now _
    c.first_digit-first.new.table c.first_digit-first.result 3 c.first_digit-first.ensures
    (length_first_digit c.args.w.wire c.args.x
    c.args.y)

pub compare_words-requires : goal.compare_words-requires
compare_words-requires c = let a = c.args in
    let e = lowest (goal.at.compare_words-requires c).After-first_digit-first in
    let n = c.first_digit-first.result.wire in
    record {
      room = room_behind a.w a.table.now _ c.first_digit-first.new.table
          c.first_digit-first.result 3 _ _
          c.first_digit-first.ensures (length_first_digit a.w.wire a.x a.y)
          (omega (arith, length_compare n (a.x + 1) (a.y + 1) (a.w.wire + 1) (a.w.wire + 2) a.digits))
          c.requires.room;
      first_below = omega (arith, c.requires.first_below);
      second_below = omega (arith, c.requires.second_below);
    }

pub returns : goal.returns
unfolding compare
returns c = let a = c.args in
    wrote_then a.w a.table.now _
    c.first_digit-first.new.table
    c.first_digit-first.result _ _
    c.compare_words.new.table c.compare_words.result
    c.first_digit-first.ensures
    c.compare_words.ensures
    (ap (λ (n : ℕ). compare_words n (a.x + 1) (a.y + 1) (a.w.wire + 1) (a.w.wire + 2) a.digits)
    (lowest (goal.at.returns c).After-first_digit-first))

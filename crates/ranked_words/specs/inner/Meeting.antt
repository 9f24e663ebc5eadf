-- What writing a meeting asks for.
use Rattle.std.specs.Prelude.{ℕ, suc, ◌+◌, ◌*◌, ◌≤◌}
use Rattle.gate_words.specs.Writing.{Room}
use Rattle.gate_words.specs.declared.writer.Writer.{Writer}

-- For the gates that decide, after comparisons that end just before the wires a, b and s.
pub record Deciding (w : Writer) (a b s : ℕ) : Type 0 where
  pub room : Room w 4
  pub first : 2 ≤ a
  pub second : 2 ≤ b
  pub third : 1 ≤ s
  pub fourth : 1 ≤ w.wire

-- For a whole meeting: room, and the four words that it compares.
pub record Meeting (w : Writer) (li lj ij ji digits : ℕ) : Type 0 where
  pub room : Room w (10 * digits + 14)
  pub li_below : li + suc digits ≤ w.wire
  pub lj_below : lj + suc digits ≤ w.wire
  pub ij_below : ij + suc digits ≤ w.wire
  pub ji_below : ji + suc digits ≤ w.wire

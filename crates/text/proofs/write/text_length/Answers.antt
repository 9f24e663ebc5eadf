-- `text::write::text_length` meets its contract: the total so far plus the length of the rest is the whole length.
-- Assumes nothing.
use mathlib.Core.Path.{ap}
use Prim.Native.Nat.{ℕ, suc}
use native.Mathlib.Numerals.{add-one}
use lib.ListN.{length, drop, length-append}
use Rattle.gates.specs.Gate.{gates_of}
use Rattle.gates.proofs.Table.{length_gates}
use Rattle.text_lines.specs.Line.{line_of}
use Rattle.text.specs.Text.{text_of}
use Rattle.text.proofs.Storing.{text_from, text_end}
use native.Mathlib.Omega.{arith}
use Rattle.text.proofs.write.text_length.Goals as goal

pub overflow_add-total : goal.overflow_add-total
overflow_add-total c = omega (
  arith,
  c.line_length-total.ensures.short,
  c.requires,
  length_gates c.args.table.now,
)

pub loop-g-preserved : goal.loop-g-preserved
loop-g-preserved c = let l = c.loop-g in
    let t = c.args.table.now in
    let rest = text_of (drop (suc l.g) (gates_of t)) in
    let e = ap length (text_from t l.g c.at-gate.result c.at-gate.ensures (omega (arith, length_gates t))) in
    let n = length-append
    (line_of c.at-gate.result) rest in
    let k = ap (λ (j : ℕ). length (text_of (drop j (gates_of t)))) (add-one l.g) in
    (omega (arith, c.line_length-total.ensures.short), omega (arith, c.line_length-total.ensures.is, l.invariant.1))

pub returns : goal.returns
returns c = let t = c.args.table.now in
    omega (arith, c.loop-g.invariant.1, ap length (text_end t c.loop-g.g (omega (arith, length_gates t))))

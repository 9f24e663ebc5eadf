-- `text::write::put_text` meets its contract: storing the rest from here on gives what storing all from the start
-- gives.
-- Assumes nothing.
use mathlib.Core.Path.{◌∙◌, sym, ap}
use mathlib.Core.List.{List}
use Prim.Native.Nat.{ℕ, suc}
use native.Mathlib.Numerals.{add-one}
use lib.ListN.{length, drop, length-append}
use lib.Seq.{sets, length-sets}
use Rattle.gates.specs.Gate.{gates_of}
use Rattle.gates.proofs.Table.{length_gates}
use Rattle.text_lines.specs.Line.{line_of}
use Rattle.text.specs.Text.{text_of}
use Rattle.text_lines.proofs.Storing.{sets_append}
use Rattle.text.proofs.Storing.{text_from, text_end}
use native.Mathlib.Omega.{arith}
use Rattle.text.proofs.write.put_text.Goals as goal

pub put_line-place-requires : goal.put_line-place-requires
put_line-place-requires c = let l = c.loop-g in
    let t = c.args.table.now in
    let rest = text_of (drop (suc l.g) (gates_of t)) in
    omega (
      arith,
      l.invariant.0,
      ap length (text_from t l.g c.at-gate.result c.at-gate.ensures (omega (arith, length_gates t))),
      length-append
          (line_of c.at-gate.result) rest,
    )

pub loop-g-preserved : goal.loop-g-preserved
loop-g-preserved c = let l = c.loop-g in
    let t = c.args.table.now in
    let rest = text_of (drop (suc l.g) (gates_of t)) in
    let line =
    line_of c.at-gate.result in
    let here = text_from t l.g c.at-gate.result c.at-gate.ensures (omega (arith, length_gates t)) in
    let e = ap length here in
    let n = length-append line rest in
    let k = ap (λ (j : ℕ). text_of (drop j (gates_of t))) (add-one l.g) in
    let r = c.put_line-place in
    let long = ap length r.ensures.is ∙ length-sets l.output l.place line in (
      omega (arith, l.invariant.0, r.ensures.next, ap length k),
      long ∙ l.invariant.1,
      ap (λ (x : List ℕ). sets r.new.output r.result x) k
          ∙ ap (λ (x : List ℕ). sets x r.result rest) r.ensures.is
          ∙ ap (λ (p : ℕ). sets (sets l.output l.place line) p rest) r.ensures.next
          ∙ sym (ap (sets l.output l.place) here ∙ sets_append l.output l.place line rest)
          ∙ l.invariant.2,
    )

pub returns : goal.returns
returns c = let l = c.loop-g in
    let t = c.args.table.now in
    sym (ap (sets l.output l.place) (text_end t l.g (omega (arith, length_gates t)))) ∙ l.invariant.2

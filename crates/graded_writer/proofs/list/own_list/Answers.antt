-- `graded_writer::list::own_list` meets its contract: one gate for a single candidate, else the circuit of the plan.
-- Assumes nothing.
use mathlib.Core.Path.{◌≡◌, ap, subst}
use mathlib.Core.List.{[], ◌∷◌}
use native.Mathlib.Omega.{arith}
use lib.ListN.{length}
use Rattle.gate_words.specs.Gates.{constant}
use Rattle.gate_words.specs.Writing.{Wrote}
use Rattle.gate_words.specs.declared.writer.Writer.{Writer}
use Rattle.gate_words.proofs.Writing.{wrote_as}
use Rattle.gate_words.proofs.Emitting.{constant_wrote}
use Rattle.jury.specs.Shape.{ballot_bytes}
use Rattle.graded_circuit.specs.OwnList.{circuit, own_grading}
use Rattle.graded_writer.proofs.ListWriters.{own_one, own_more, first_writer, first_room, plan_planned, plan_many, circuit_short}
use Rattle.graded_writer.proofs.list.own_list.Goals as goal
use Rattle.graded_writer.proofs.list.own_list.Goals.{After-new-w}

start : (c : After-new-w) → c.new-w.result
    ≡ record { gate = 0; wire = ballot_bytes c.args.shape; conditional = 0 }
start c =
    first_writer c.args.shape c.new-p.result c.new-w.result
    c.new-p.ensures c.new-w.ensures

pub emit-requires : goal.emit-requires
emit-requires c = first_room c.args.shape c.new-w.result 1
    c.requires (start (goal.at.emit-requires c).After-new-w) (omega arith)

pub returns-then-shape-eq1 : goal.returns-then-shape-eq1
returns-then-shape-eq1 c = let a = c.args in
    let w = c.new-w.result in
    let e = c.emit in
    subst (λ (v : Writer). Wrote v a.table.now (own_grading a.shape) e.new.table e.result) (start (goal.at.returns-then-shape-eq1 c).After-new-w)
    (wrote_as w a.table.now (constant 1 ∷ []) (own_grading a.shape) e.new.table e.result
    (own_one a.shape c.if-shape-eq1.true)
    (constant_wrote w a.table.now e.new.table e.result 0 0 0 1 e.ensures))

pub circuit-requires : goal.circuit-requires
circuit-requires c = let shape = c.args.shape in
    let p = c.new-p.result in
    let w = c.new-w.result in
    record {
      plan = plan_planned shape p c.requires c.new-p.ensures;
      room = first_room shape w (length (circuit p)) c.requires
          (start (goal.at.circuit-requires c).After-new-w)
          (circuit_short shape p c.requires
          c.new-p.ensures c.if-shape-eq1.false);
      place = ap (λ (v : Writer). v.wire) c.new-w.ensures;
      several = plan_many shape p c.requires
          c.new-p.ensures c.if-shape-eq1.false;
    }

pub returns : goal.returns
returns c = let a = c.args in
    let p = c.new-p.result in
    let w = c.new-w.result in
    let e = c.circuit in
    subst (λ (v : Writer). Wrote v a.table.now (own_grading a.shape) e.new.table e.result) (start (goal.at.returns c).After-new-w)
    (wrote_as w a.table.now (circuit p) (own_grading a.shape) e.new.table e.result
    (own_more a.shape p c.new-p.ensures
    c.if-shape-eq1.false) e.ensures)

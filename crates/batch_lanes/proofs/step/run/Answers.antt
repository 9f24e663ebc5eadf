-- `batch_lanes::step::run` meets its contract: copying the inputs, running the gates and copying the closing words
-- leave in each lane the wires and the board of the whole list.
-- Assumes nothing.
use Rattle.std.proofs.Common.{◌≡◌, ℕ, List, ◌++◌, length, drop, ap}
use Rattle.batch_lanes.proofs.RunLaws.{step_ready, can_close, final_wires, final_board}
use Rattle.batch_lanes.proofs.step.run.Goals as goal
use Rattle.batch_lanes.proofs.step.run.Goals.{After-copy}

-- the wire table begins with the inputs
copied : (c : After-copy) → let a = c.args in
    c.copy.new.to ++ drop (length a.inputs.now) a.wires.now ≡ a.inputs.now ++ drop (length a.inputs.now) a.wires.now
copied c = let a = c.args in
    ap (λ (l : List ℕ). l ++ drop (length a.inputs.now) a.wires.now) c.copy.ensures

pub step-shown-requires : goal.step-shown-requires
step-shown-requires c =
    let a = c.args in
    step_ready a.inputs.now a.table.now a.outputs a.tape.now a.wires.now a.board.now c.requires
    _ (copied (goal.at.step-shown-requires c).After-copy)

pub close-requires : goal.close-requires
close-requires c =
    let a = c.args in
    let r = c.step-shown in
    let q = can_close a.inputs.now a.table.now a.outputs a.tape.now a.wires.now a.board.now
    c.requires _ (copied (goal.at.close-requires c).After-copy)
    r.result r.new.wires r.new.board r.ensures.shown_is r.auto.wires r.auto.board in
    record { enough = q.0; board_length = q.1 }

pub returns : goal.returns
returns c =
    let a = c.args in
    let r = c.step-shown in
    let f = copied (goal.at.returns c).After-copy in
    record {
      wires_are = final_wires a.inputs.now a.table.now a.outputs a.tape.now a.wires.now
          a.board.now c.requires _ f r.result _ _ r.ensures.shown_is r.auto.wires
          r.auto.board r.ensures.wires_are r.ensures.board_is;
      board_is = final_board a.inputs.now a.table.now a.outputs a.tape.now a.wires.now
          a.board.now c.requires _ f r.result _ _ r.ensures.shown_is r.auto.wires
          r.auto.board r.ensures.wires_are r.ensures.board_is _ c.close.ensures;
    }

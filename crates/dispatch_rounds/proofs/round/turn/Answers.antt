-- `dispatch_rounds::round::turn` meets its contract: a finished jury stays as it is; for any other the step does
-- the next gates, and after the last gate the closing bytes are put on the board.
use mathlib.Core.Path.{sym, ap, subst}
use mathlib.Core.List.{List}
use Prim.Native.Nat.{ℕ, ◌+◌, ◌<◌}
use native.Mathlib.Omega.{arith}
use lib.ListN.{length}
use Rattle.gates.specs.Gate.{gates_of}
use Rattle.gates.proofs.Prefix.{Stands, can_step, step_stands, can_close}
use Rattle.dispatch_rounds.specs.Tables.{tables_of}
use Rattle.dispatch_rounds.specs.inner.State.{JuryState}
use Rattle.dispatch_rounds.proofs.JuryStates.{turn_begins, turn_goes_on, turn_ends, turn_idle, jury_wires_long}
use Rattle.dispatch_rounds.proofs.round.turn.Goals as goal
use Rattle.dispatch_rounds.proofs.round.turn.Goals.{After-load, After-step-last}

pub returns-then-gates-given : goal.returns-then-gates-given
returns-then-gates-given c =
    let a = c.args in
    λ (ws bs : List ℕ) j.
    turn_idle a.header (tables_of a.list.now a.ballots.now a.tape.now ws bs) a.given a.gates_per_round
    a.wires.now a.board.now a.shown c.if-gates-given.true j

pub load-requires : goal.load-requires
load-requires c =
    let a = c.args in
    let ws = c.requires.wires_lent in
    let bs = c.requires.board_lent in
    let j = c.requires.state in
    let p = tables_of a.list.now a.ballots.now a.tape.now ws bs in
    let long = jury_wires_long a.header p a.given j.gates (omega (arith, j.run.wires_length, j.gates)) in
    omega (arith, ap length j.wires_are, long, j.run.wires_length)

-- the jury after the ballots were put into its wire table
begun : (c : After-load) (ws bs : List ℕ) → let a = c.args in
    JuryState a.given a.header (tables_of a.list.now a.ballots.now a.tape.now ws bs) a.wires.now a.board.now a.shown
    → Stands a.ballots.now a.list.now a.tape.now ws bs a.given c.load.new.wires a.board.now a.shown
begun c ws bs j =
    let a = c.args in
    turn_begins a.header (tables_of a.list.now a.ballots.now a.tape.now ws bs) a.given a.wires.now
    _ a.board.now a.shown j c.if-gates-given.false c.load.ensures

pub step-last-requires : goal.step-last-requires
step-last-requires c =
    let a = c.args in
    let j = c.requires.state in
    let before : a.given < a.header.gates = c.if-gates-given.false in
    can_step a.ballots.now a.list.now a.header.candidates a.tape.now c.requires.wires_lent
    c.requires.board_lent j.run a.given a.header.gates (omega arith) (omega (arith, j.gates))
    _ a.board.now a.shown (begun (goal.at.step-last-requires c).After-load c.requires.wires_lent c.requires.board_lent j)

-- the jury after its last gate
finished : (c : After-step-last) (ws bs : List ℕ) → let a = c.args in
    JuryState a.given a.header (tables_of a.list.now a.ballots.now a.tape.now ws bs) a.wires.now a.board.now a.shown
    → Stands a.ballots.now a.list.now a.tape.now ws bs a.given c.load.new.wires a.board.now a.shown
    → Stands a.ballots.now a.list.now a.tape.now ws bs (length (gates_of a.list.now))
    c.step-last.new.wires c.step-last.new.board c.step-last.result
finished c ws bs j begins =
    let a = c.args in
    let before : a.given < a.header.gates = c.if-gates-given.false in
    let r = c.step-last in
    subst (λ (n : ℕ). Stands a.ballots.now a.list.now a.tape.now ws bs n r.new.wires r.new.board r.result) (sym j.gates)
    (step_stands a.ballots.now a.list.now a.header.candidates a.tape.now ws bs j.run a.given
    a.header.gates (omega arith) (omega (arith, j.gates))
    _ a.board.now a.shown begins _ _ r.result r.ensures.next r.ensures.wires r.ensures.board)

pub close-requires : goal.close-requires
close-requires c =
    let a = c.args in
    let j = c.requires.state in
    can_close a.ballots.now a.list.now a.header.candidates a.tape.now c.requires.wires_lent
    c.requires.board_lent j.run _ _ _ (finished (goal.at.close-requires c).After-step-last c.requires.wires_lent c.requires.board_lent j
    (begun (goal.at.close-requires c).After-load c.requires.wires_lent c.requires.board_lent j))

pub returns-then-gates-given-2 : goal.returns-then-gates-given-2
returns-then-gates-given-2 c =
    let a = c.args in
    let past = c.if-gates-given-2.true in
    λ (ws bs : List ℕ) j.
    turn_ends a.header (tables_of a.list.now a.ballots.now a.tape.now ws bs) j.run j.some_gate
    j.gates (a.given + a.gates_per_round) _ _ _ _ (omega arith) (finished (goal.at.returns-then-gates-given-2 c).After-step-last ws bs j
    (begun (goal.at.returns-then-gates-given-2 c).After-load ws bs j)) c.close.ensures

pub step-requires : goal.step-requires
step-requires c =
    let a = c.args in
    let j = c.requires.state in
    let ahead = c.if-gates-given-2.false in
    can_step a.ballots.now a.list.now a.header.candidates a.tape.now c.requires.wires_lent
    c.requires.board_lent j.run a.given (a.given + a.gates_per_round) (omega arith) (omega (arith, j.gates))
    _ a.board.now a.shown (begun (goal.at.step-requires c).After-load c.requires.wires_lent c.requires.board_lent j)

pub returns : goal.returns
returns c =
    let a = c.args in
    let ahead = c.if-gates-given-2.false in
    let r = c.step in
    let per_round_least = c.requires.per_round_least in
    λ (ws bs : List ℕ) j.
    turn_goes_on a.header (tables_of a.list.now a.ballots.now a.tape.now ws bs) j.run j.some_gate
    j.gates (a.given + a.gates_per_round) _ _ _ (omega arith) (omega arith)
    (step_stands a.ballots.now a.list.now a.header.candidates a.tape.now ws bs j.run a.given
    (a.given + a.gates_per_round) (omega arith) (omega (arith, j.gates))
    _ a.board.now a.shown (begun (goal.at.returns c).After-load ws bs j) _ _ r.result r.ensures.next r.ensures.wires
    r.ensures.board)

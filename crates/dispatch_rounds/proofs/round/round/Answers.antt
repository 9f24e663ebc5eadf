-- `dispatch_rounds::round::round` meets its contract: the juries before j have had their turn, and the others are
-- as they were before the round.
use Rattle.std.proofs.Common.{◌≡◌, sym, subst, List, [], ℕ, ◌+◌, ◌*◌, drop, drop_of_length-le, suc-mul, arith}
use Rattle.dispatch_rounds.specs.declared.header.JuryHeader.{JuryHeader}
use Rattle.dispatch_rounds.specs.Tables.{tables_of, pieces_of}
use Rattle.dispatch_rounds.specs.Rounds.{RoundState}
use Rattle.dispatch_rounds.proofs.MidRound.{from, Mid, mid_start, mid_end}
use Rattle.dispatch_rounds.proofs.Turns.{jury_of, PiecesLie, turn_within, after_lie, turn_lies, turn_state, turn_done}
use Rattle.dispatch_rounds.proofs.round.round.Goals as goal
use Rattle.dispatch_rounds.proofs.round.round.Goals.{In-loop-j, After-after-next}

-- the jury whose turn it is, at the contents that the contract names
now : (c : In-loop-j) → Mid c.args.headers.now (tables_of c.args.lists.now c.args.ballots.now c.args.tapes.now c.requires.wires_lent c.requires.boards_lent)
    (c.args.done * c.args.gates_per_round) (c.args.done * c.args.gates_per_round + c.args.gates_per_round) c.args.conditional c.loop-j.j
    (drop c.loop-j.j c.args.headers.now) c.loop-j.at c.loop-j.wires c.loop-j.boards c.loop-j.shown
now c = c.loop-j.invariant c.requires.wires_lent c.requires.boards_lent c.requires.state

lies : (c : After-after-next) → PiecesLie c.args.lists.now c.args.ballots.now c.args.tapes.now c.loop-j.wires c.loop-j.boards c.loop-j.at c.after-next.result
lies c = turn_lies _ _ _ _ _ _ _ _ _ _ _ _ _ _ c.loop-j-test.true
    (c.loop-j.invariant c.requires.wires_lent c.requires.boards_lent c.requires.state) c.after-next.result c.after-next.ensures

pub loop-j-init : goal.loop-j-init
loop-j-init c = λ (ws bs : List ℕ) st. mid_start _ _ c.args.headers.now _ _ _ ws bs _ _ _ _ st

pub after-next-requires : goal.after-next-requires
after-next-requires c =
    let i = (goal.at.after-next-requires c).In-loop-j in
    let k = after_lie _ _ _ _ _ _ _ _ _ _ _ _ _ _ c.loop-j-test.true (now i) in
    record {
      within = turn_within _ _ _ _ _ _ _ _ _ _ _ _ _ _ c.loop-j-test.true (now i);
      lists = omega (arith, k.lists_to);
      ballots = omega (arith, k.ballots_to);
      tapes = omega (arith, k.tapes_to);
      wires = omega (arith, k.wires_to);
      boards = omega (arith, k.boards_to);
    }

pub slice_bounds-turn-end : goal.slice_bounds-turn-end
slice_bounds-turn-end c = omega (arith, (lies (goal.at.slice_bounds-turn-end c).After-after-next).lists_to)

pub slice_bounds-turn-end-in-loop-j : goal.slice_bounds-turn-end-in-loop-j
slice_bounds-turn-end-in-loop-j c = omega (arith, (lies (goal.at.slice_bounds-turn-end-in-loop-j c).After-after-next).ballots_to)

pub slice_bounds-turn-end-in-loop-j-2 : goal.slice_bounds-turn-end-in-loop-j-2
slice_bounds-turn-end-in-loop-j-2 c = omega (arith, (lies (goal.at.slice_bounds-turn-end-in-loop-j-2 c).After-after-next).tapes_to)

pub slice_bounds-turn-end-in-loop-j-3 : goal.slice_bounds-turn-end-in-loop-j-3
slice_bounds-turn-end-in-loop-j-3 c = omega (arith, (lies (goal.at.slice_bounds-turn-end-in-loop-j-3 c).After-after-next).wires_to)

pub slice_bounds-turn-end-in-loop-j-4 : goal.slice_bounds-turn-end-in-loop-j-4
slice_bounds-turn-end-in-loop-j-4 c = omega (arith, (lies (goal.at.slice_bounds-turn-end-in-loop-j-4 c).After-after-next).boards_to)

pub turn-requires : goal.turn-requires
turn-requires c =
    let t = tables_of c.args.lists.now c.args.ballots.now c.args.tapes.now c.requires.wires_lent c.requires.boards_lent in
    let p = pieces_of (jury_of c.args.headers.now c.loop-j.j) (from c.loop-j.at t) in
    record {
      per_round_least = c.requires.per_round_least;
      per_round_most = c.requires.per_round_most;
      wires_lent = p.wires;
      board_lent = p.boards;
      state = turn_state _ _ _ _ _ _ _ _ _ _ _ _ _ _ c.loop-j-test.true
          (c.loop-j.invariant c.requires.wires_lent c.requires.boards_lent c.requires.state) c.after-next.result c.after-next.ensures;
    }

pub loop-j-preserved : goal.loop-j-preserved
loop-j-preserved c = λ (ws bs : List ℕ) st.
    let t = tables_of c.args.lists.now c.args.ballots.now c.args.tapes.now ws bs in
    let p = pieces_of (jury_of c.args.headers.now c.loop-j.j) (from c.loop-j.at t) in
    turn_done _ _ _ _ ws bs _ _ _ _ _ _ _ _ c.loop-j-test.true (c.loop-j.invariant ws bs st) c.after-next.result c.after-next.ensures
    c.turn.new.wires c.turn.new.board c.turn.result c.turn.auto.wires c.turn.auto.board
    (c.turn.ensures p.wires p.boards (turn_state _ _ _ _ ws bs _ _ _ _ _ _ _ _ c.loop-j-test.true (c.loop-j.invariant ws bs st)
    c.after-next.result c.after-next.ensures))

pub returns : goal.returns
returns c = λ (ws bs : List ℕ) st.
    let ss = c.args.headers.now in
    let t = tables_of c.args.lists.now c.args.ballots.now c.args.tapes.now ws bs in
    let given = c.args.done * c.args.gates_per_round in
    let none_left : drop c.loop-j.j ss ≡ [] = drop_of_length-le ss {i = c.loop-j.j} (omega arith) in
    subst (λ (n : ℕ). RoundState n ss t c.args.conditional c.loop-j.wires c.loop-j.boards c.loop-j.shown)
    (sym (suc-mul c.args.done c.args.gates_per_round))
    (mid_end ss t given (given + c.args.gates_per_round) c.args.conditional c.loop-j.j c.loop-j.at c.loop-j.wires c.loop-j.boards
    c.loop-j.shown st.accepted st.conditional_are
    (subst (λ (left : List JuryHeader). Mid ss t given (given + c.args.gates_per_round) c.args.conditional c.loop-j.j left c.loop-j.at
    c.loop-j.wires c.loop-j.boards c.loop-j.shown) none_left (c.loop-j.invariant ws bs st)))

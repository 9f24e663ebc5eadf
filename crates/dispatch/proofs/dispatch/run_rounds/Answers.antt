-- `dispatch::dispatch::run_rounds` meets its contract: each round gives every jury its next gates, and there are at
-- most as many rounds as gates.
use Rattle.std.proofs.Common.{◌≡◌, sym, subst, ⊎_elim, ℕ, ◌+◌, ◌*◌, ◌≤◌, ◌<◌, replicate, zero-mul, mul-le-mul, add-one, arith}
use Rattle.basics.proofs.Cases.{below_or_not}
use Rattle.dispatch_rounds.specs.Tables.{tables_of}
use Rattle.dispatch_rounds.specs.Rounds.{RoundState}
use Rattle.dispatch.proofs.Whole.{state_start, few_gates, gets_gate}
use Rattle.dispatch.proofs.dispatch.run_rounds.Goals as goal
use Rattle.dispatch.proofs.dispatch.run_rounds.Goals.{At-loop-done, In-loop-done}

-- a bound for the gates of the longest jury
few : (c : At-loop-done) → c.longest_list-most.result ≤ 1048576
few c = omega (
  arith,
  c.longest_list-most.ensures,
  few_gates 0 c.args.headers.now (tables_of c.args.lists.now c.args.ballots.now c.args.tapes.now c.args.wires.now c.args.boards.now)
      c.requires.accepted,
)

-- a round gives at least one gate, so there are no more rounds than gates
below : (done gates_per_round most : ℕ) → 1 ≤ gates_per_round → done * gates_per_round < most → done < most
below done gates_per_round most h l = omega (arith, mul-le-mul {n₁ = done} {m₁ = 1} {n₂ = done} {m₂ = gates_per_round} (omega arith) h)

-- this round is needed: the longest jury is not finished
needed : (c : In-loop-done) → c.loop-done.done < c.longest_list-most.result
needed c = below c.loop-done.done c.args.gates_per_round c.longest_list-most.result c.requires.per_round_least c.loop-done-test.true

further : (gates_per_round most done : ℕ) → ((r : ℕ) → r < done → r * gates_per_round < most) → done * gates_per_round < most
    → (r : ℕ) → r < done + 1 → r * gates_per_round < most
further gates_per_round most done before now r h =
    ⊎_elim (λ (l : r < done). before r l)
    (λ (l : done ≤ r). let e : r ≡ done = omega arith in subst (λ (n : ℕ). n * gates_per_round < most) (sym e) now) (below_or_not r done)

pub loop-done-init : goal.loop-done-init
loop-done-init c =
    let a = c.args in
    let t = tables_of a.lists.now a.ballots.now a.tapes.now a.wires.now a.boards.now in
    record {
      state = subst (λ (n : ℕ). RoundState n a.headers.now t a.conditional a.wires.now a.boards.now (replicate 8 0))
          (sym (zero-mul a.gates_per_round))
          (state_start a.headers.now t a.conditional c.requires.few c.requires.accepted c.requires.conditional_are);
      done_most = omega arith;
      none_idle = λ (r : ℕ) (h : r < 0). absurd (omega arith);
    }

pub overflow_mul-done : goal.overflow_mul-done
overflow_mul-done c =
    omega (
      arith,
      mul-le-mul {n₁ = c.loop-done.done} {m₁ = c.args.gates_per_round} {n₂ = 1048576} {m₂ = 65536}
          (omega (arith, c.loop-done.invariant.done_most, few (goal.at.overflow_mul-done c).At-loop-done)) c.requires.per_round_most,
    )

pub round-after-requires : goal.round-after-requires
round-after-requires c =
    record {
      few = c.requires.few;
      per_round_least = c.requires.per_round_least;
      per_round_most = c.requires.per_round_most;
      done_most = omega (arith, c.loop-done.invariant.done_most, few (goal.at.round-after-requires c).At-loop-done);
      wires_lent = c.args.wires.now;
      boards_lent = c.args.boards.now;
      state = c.loop-done.invariant.state;
    }

pub overflow_add-done : goal.overflow_add-done
overflow_add-done c = omega (arith, c.loop-done.invariant.done_most, few (goal.at.overflow_add-done c).At-loop-done)

pub loop-done-smaller : goal.loop-done-smaller
loop-done-smaller c = omega (arith, needed (goal.at.loop-done-smaller c).In-loop-done)

pub loop-done-preserved : goal.loop-done-preserved
loop-done-preserved c =
    let a = c.args in
    let l = c.loop-done in
    let r = c.round-after in
    record {
      state = subst (λ (n : ℕ). RoundState (n * a.gates_per_round) a.headers.now
          (tables_of a.lists.now a.ballots.now a.tapes.now a.wires.now a.boards.now) a.conditional r.new.wires r.new.boards r.result)
          (sym (add-one l.done))
          (r.ensures a.wires.now a.boards.now l.invariant.state);
      done_most = omega (arith, needed (goal.at.loop-done-preserved c).In-loop-done);
      none_idle = further a.gates_per_round c.longest_list-most.result l.done l.invariant.none_idle c.loop-done-test.true;
    }

pub returns : goal.returns
returns c =
    let l = c.loop-done in
    let most = c.longest_list-most.ensures in
    record {
      done = l.done;
      shown = l.shown;
      all = omega (arith, c.loop-done-test.false, most);
      none_idle = λ (r : ℕ) h.
          gets_gate c.args.gates_per_round r c.args.headers.now c.requires.per_round_least (omega (arith, l.invariant.none_idle r h, most));
      state = l.invariant.state;
    }

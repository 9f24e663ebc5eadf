-- Nothing is touched before all tests have passed.
use Rattle.std.proofs.Common.{◌≡◌, ◌∙◌, sym, ap, ℕ, ◌+◌, ◌*◌, List, arith}
use mathlib.Core.Option.{none}
use Rattle.gates.specs.Gate.{gates_of}
use Rattle.gates.proofs.Counting.{count_most}
use Rattle.gate_levels.specs.Levels.{rounds_of}
use Rattle.gate_levels.proofs.Laws.{rounds_most}
use Rattle.jury.specs.Shape.{within_limits, ballot_bytes}
use Rattle.jury.specs.Reason.{first_of}
use Rattle.jury.proofs.Limits.{bounds, inputs_bound}
use Rattle.basics.proofs.Flags.{true_T}
use Rattle.tally.proofs.Exits.{exit}
use Rattle.tally.proofs.RunReasons.{outcome_refused, accepted_values}
use Rattle.levels.specs.Answer.{Depths, depths_of, depths_outcome, level_reason_of}
use Rattle.trustee_rounds.specs.Rounds.{Turn, enters, publishes, closes}
use Rattle.trustee_alone.specs.Rounds.{round_reasons, round_outcome, own_turn, wires_made, published_made, rounded_wires, rounded_published}
use Rattle.trustee_alone.proofs.Tests.{outcome_some, outcome_none, left_old, left_new, same_own}
use Rattle.trustee_alone.proofs.Passed.{Passed, round_passed}
use Rattle.trustee_alone.proofs.round.round.Goals as goal
use Rattle.trustee_alone.proofs.round.round.Goals.{In_ok-depths}

-- the tests have passed, and the answer is the list's own G, C and R
accepted_by : (c : In_ok-depths) → let a = c.args in let z = c.in_ok-depths.depths in
    (first_of (round_reasons a.shape a.table.now a.t a.p a.round a.levels.now a.triples.now a.heard.now a.wires.now
    a.published.now) ≡ none)
    × (depths_of (ballot_bytes a.shape) (gates_of a.table.now)
    ≡ record { gates = z.gates; conditional = z.conditional; rounds = z.rounds })
unfolding depths_outcome
accepted_by c =
    let a = c.args in
    accepted_values
    (first_of (round_reasons a.shape a.table.now a.t a.p a.round a.levels.now a.triples.now a.heard.now a.wires.now
    a.published.now))
    (depths_of (ballot_bytes a.shape) (gates_of a.table.now)) _ (sym c.in_ok-depths.ensures)

-- what holds if the tests have passed
known : (c : In_ok-depths) → let a = c.args in
    Passed a.shape a.table.now a.round a.levels.now a.triples.now a.heard.now a.wires.now a.published.now
known c =
    let a = c.args in
    round_passed a.shape a.table.now a.t a.p a.round a.levels.now a.triples.now a.heard.now a.wires.now a.published.now
    (accepted_by c).0

pub returns-in_err-depths : goal.returns-in_err-depths
unfolding depths_outcome round_outcome rounded_wires rounded_published
returns-in_err-depths c =
    let a = c.args in
    let r = level_reason_of c.in_err-depths.field-0.0 in
    let p = exit c.from_residual.result c.from_residual.ensures in
    let o = first_of (round_reasons a.shape a.table.now a.t a.p a.round a.levels.now a.triples.now a.heard.now
    a.wires.now a.published.now) in
    let depths = depths_of (ballot_bytes a.shape) (gates_of a.table.now) in
    let why = outcome_refused o depths r (sym c.in_err-depths.ensures) in
    rw (p.1, p.2) (same_own (outcome_some o depths r why)
    (left_old o (wires_made a.shape a.table.now a.p a.round a.levels.now a.triples.now a.heard.now a.wires.now)
    a.wires.now r why)
    (left_old o (published_made a.shape a.table.now a.p a.round a.levels.now a.triples.now a.heard.now a.wires.now
    a.published.now) a.published.now r why))

pub ballot_bytes-requires : goal.ballot_bytes-requires
ballot_bytes-requires c =
    true_T (within_limits c.args.shape) (known (goal.at.ballot_bytes-requires c).In_ok-depths).facts.within

pub round-requires : goal.round-requires
unfolding depths_of
round-requires c =
    let a = c.args in
    let at = goal.at.round-requires c in
    let p = known at.In_ok-depths in
    let e = c.ballot_bytes.ensures in
    let conditional = ap (λ (d : Depths). d.conditional) (accepted_by at.In_ok-depths).1 in
    rw e (record {
      pass = record {
        some_input = p.facts.some_input;
        few = omega (arith, p.facts.few, inputs_bound a.shape (bounds a.shape p.facts.within));
        good = p.facts.good;
        levels_length = p.levels_length;
        triples_length = p.lengths.triples_length;
        wires_length = p.lengths.wires_length;
      };
      early = omega (
        arith,
        p.early,
        rounds_most (ballot_bytes a.shape) (gates_of a.table.now),
        count_most (gates_of a.table.now),
        p.facts.few,
      );
      conditional_is = sym conditional;
      enough = p.facts.enough;
      heard_length = p.heard_length;
      published_length = p.lengths.published_length ∙ ap (λ (n : ℕ). 2 * n + a.shape.candidates) conditional;
    })

pub returns : goal.returns
unfolding depths_outcome depths_of round_outcome rounded_wires rounded_published wires_made published_made own_turn
returns c =
    let a = c.args in
    let z = c.in_ok-depths.depths in
    let by = accepted_by (goal.at.returns c).In_ok-depths in
    let e = c.ballot_bytes.ensures in
    let gs = gates_of a.table.now in
    let conditional = ap (λ (d : Depths). d.conditional) by.1 in
    let rounds = ap (λ (d : Depths). d.rounds) by.1 in
    let u : ℕ → Turn = λ n. record {
      trustee = a.p;
      round = a.round;
      inputs = n;
      levels = a.levels.now;
      triples = a.triples.now;
      heard = a.heard.now;
    } in
    let X : ℕ → ℕ → ℕ → List ℕ = λ n m c. closes a.round m c a.shape.candidates (enters (u n) gs 0 0 a.wires.now)
    (publishes (u n) (enters (u n) gs 0 0 a.wires.now) gs 0 0 a.published.now) in
    let o = first_of (round_reasons a.shape a.table.now a.t a.p a.round a.levels.now a.triples.now a.heard.now
    a.wires.now a.published.now) in
    same_own (outcome_none o (depths_of (ballot_bytes a.shape) gs) _ by.0 (sym by.1))
    (c.round.ensures.parts ∙ ap (λ (n : ℕ). enters (u n) gs 0 0 a.wires.now) e
    ∙ left_new o
    (wires_made a.shape a.table.now a.p a.round a.levels.now a.triples.now a.heard.now a.wires.now) a.wires.now by.0)
    (c.round.ensures.shown ∙ ap (λ (n : ℕ). X n z.rounds z.conditional) e
    ∙ ap (λ (m : ℕ). X (ballot_bytes a.shape) m z.conditional) (sym rounds)
    ∙ ap (λ (c : ℕ). X (ballot_bytes a.shape) (rounds_of (ballot_bytes a.shape) gs) c) (sym conditional)
    ∙ left_new o
    (published_made a.shape a.table.now a.p a.round a.levels.now a.triples.now a.heard.now a.wires.now a.published.now)
    a.published.now by.0)

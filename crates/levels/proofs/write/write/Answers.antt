-- It tests the list, then the table's length, and writes only after that.
use Rattle.std.proofs.Common.{◌≡◌, ◌∙◌, sym, ap, ℕ, length, arith}
use Rattle.gates.specs.Gate.{gates_of}
use Rattle.gate_levels.specs.Levels.{levels_of, rounds_of}
use Rattle.jury.specs.Shape.{within_limits, ballot_bytes}
use Rattle.jury.specs.Reason.{reason_at, reason_of}
use Rattle.basics.proofs.Flags.{true_T}
use Rattle.tally.specs.Answer.{accepted, outcome_of, size_in}
use Rattle.tally.proofs.TestReasons.{test_passed}
use Rattle.levels.specs.Answer.{level_reason_of, depths_outcome}
use Rattle.levels.proofs.Reasons.{ListFacts, list_facts, of_list, other_length, all_pass, call_refused, call_accepted, depths_are, same_result}
use Rattle.tally.proofs.Exits.{exit}
use Rattle.levels.proofs.write.write.Goals as goal
use Rattle.levels.proofs.write.write.Goals.{In_ok-size}

pub returns-in_err-size : goal.returns-in_err-size
unfolding depths_outcome level_reason_of outcome_of
returns-in_err-size c =
    let a = c.args in
    let r = reason_of c.in_err-size.field-0.0 in
    let p = exit c.from_residual.result c.from_residual.ensures in
    rw (p.1, p.2)
    (call_refused a.shape a.table.now a.levels.now r (of_list a.shape a.table.now a.levels.now r (sym c.in_err-size.ensures)))

-- the list has passed its test
facts : (c : In_ok-size) → let z = c.in_ok-size.size in ListFacts c.args.shape c.args.table.now z.gates z.conditional
unfolding outcome_of
facts c =
    list_facts c.args.shape c.args.table.now _ _
    (test_passed c.args.shape c.args.table.now (size_in c.in_ok-size.size) (sym c.in_ok-size.ensures))

pub returns-then-levels-size : goal.returns-then-levels-size
unfolding depths_outcome level_reason_of
returns-then-levels-size c =
    let a = c.args in
    let f = facts (goal.at.returns-then-levels-size c).In_ok-size in
    let differs = c.if-levels-size.true in
    call_refused a.shape a.table.now a.levels.now (reason_at 200 0)
    (other_length a.shape a.table.now a.levels.now f.reasons (λ e. absurd (omega (arith, differs, e, f.gates_are))))

pub ballot_bytes-requires : goal.ballot_bytes-requires
ballot_bytes-requires c = true_T (within_limits c.args.shape) (facts (goal.at.ballot_bytes-requires c).In_ok-size).within

pub write-rounds-requires : goal.write-rounds-requires
write-rounds-requires c =
    let f = facts (goal.at.write-rounds-requires c).In_ok-size in
    let e = c.ballot_bytes.ensures in
    let long : length c.args.levels.now ≡ length (gates_of c.args.table.now) = omega (arith, c.if-levels-size.false, f.gates_are) in
    rw e (record { some_input = f.some_input; few = f.few; good = f.good; levels_length = long })

pub returns : goal.returns
unfolding depths_outcome
returns c =
    let a = c.args in
    let f = facts (goal.at.returns c).In_ok-size in
    let inputs = c.ballot_bytes.ensures in
    let long : length a.levels.now ≡ length (gates_of a.table.now) = omega (arith, c.if-levels-size.false, f.gates_are) in
    same_result
    (ap accepted (depths_are (ballot_bytes a.shape) a.table.now _ _ _ f.gates_are f.conditional_are
    (c.write-rounds.ensures.rounds ∙ ap (λ (n : ℕ). rounds_of n (gates_of a.table.now)) inputs)))
    (c.write-rounds.ensures.levels ∙ ap (λ (n : ℕ). levels_of n (gates_of a.table.now)) inputs)
    ∙ call_accepted a.shape a.table.now a.levels.now (all_pass a.shape a.table.now a.levels.now f.reasons long)

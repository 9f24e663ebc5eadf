-- Each branch answers the reason of the first test that fails.
use Rattle.std.proofs.Common.{◌≡◌, ◌∙◌, sym, ap, ℕ, ◌*◌, [], true, false, length, eqb, arith}
use borrow.Author.Tests.{eq-eqb, ne_eqb, le-leb, lt-leb}
use Rattle.basics.specs.Lists.{same_numbers}
use Rattle.basics.proofs.Flags.{and_first_fails}
use Rattle.gates.specs.Gate.{gates_of}
use Rattle.gates.specs.Board.{conditional_count}
use Rattle.gates.proofs.Counting.{count_most}
use Rattle.gate_levels.specs.Levels.{levels_of, rounds_of}
use Rattle.jury.specs.Reason.{reason_at, reason_of}
use Rattle.tally.specs.Answer.{Size, size_of}
use Rattle.levels.specs.Answer.{depths_outcome, level_reason_of}
use Rattle.levels.proofs.Reasons.{depths_are}
use Rattle.trustee_gates.specs.Dealing.{only_bits}
use Rattle.trustee_alone.specs.Own.{is_trustee, own_tables_fit}
use Rattle.trustee_alone.specs.Rounds.{table_reasons}
use Rattle.trustee_alone.proofs.Tests.{pass, fail, end, and_both, outcome_some, outcome_none}
use Rattle.trustee_alone.proofs.Sizes.{small_sizes, size_is, own_same, other_same, other_long}
use Rattle.trustee_alone.proofs.round.test_tables.Goals as goal
use Rattle.trustee_alone.proofs.round.test_tables.Goals.{Else-not-is_trustee, After-tables_fit, Else-not-tables_fit, Else-not-only_bits, In-Some, Else-heard-conditional}

-- the outcomes of the tests
trustee : (c : Else-not-is_trustee) → is_trustee c.args.t c.args.p ≡ true
trustee c = sym c.is_trustee.ensures ∙ c.if-not-is_trustee.false

fit_is : (c : After-tables_fit) → let a = c.args in c.tables_fit.result
    ≡ own_tables_fit a.inputs a.k (size_of (gates_of a.table.now)) a.own.triples.now a.own.wires.now a.own.published.now
fit_is c =
    let a = c.args in
    c.tables_fit.ensures
    ∙ ap (λ (z : Size). own_tables_fit a.inputs a.k z a.own.triples.now a.own.wires.now a.own.published.now)
    (size_is a.size.gates a.size.conditional a.table.now c.requires.gates_are c.requires.conditional_are)

fits : (c : Else-not-tables_fit) → let a = c.args in
    c.tables_fit.result ≡ own_tables_fit a.inputs a.k (size_of (gates_of a.table.now)) a.own.triples.now a.own.wires.now
    a.own.published.now
    → own_tables_fit a.inputs a.k (size_of (gates_of a.table.now)) a.own.triples.now a.own.wires.now a.own.published.now
    ≡ true
fits c e = sym e ∙ c.if-not-tables_fit.false

bits : (c : Else-not-only_bits) → only_bits c.args.own.triples.now ≡ true
bits c = sym c.only_bits.ensures ∙ c.if-not-only_bits.false

same : (c : In-Some) → let a = c.args in
    (same_numbers a.levels.now (levels_of a.inputs (gates_of a.table.now)) ≡ true)
    × (c.in-Some.rounds ≡ rounds_of a.inputs (gates_of a.table.now))
same c =
    own_same c.args.inputs (gates_of c.args.table.now) c.args.levels.now _ (sym c.compare.ensures ∙ c.in-Some.is)

long : (c : Else-heard-conditional) → eqb (length c.args.heard.now) (2 * conditional_count (gates_of c.args.table.now)) ≡ true
long c =
    eq-eqb (length c.args.heard.now) (2 * conditional_count (gates_of c.args.table.now))
    (c.if-heard-conditional.false ∙ ap (λ (n : ℕ). 2 * n) c.requires.conditional_are)

pub returns-then-not-is_trustee : goal.returns-then-not-is_trustee
unfolding depths_outcome level_reason_of reason_of table_reasons
returns-then-not-is_trustee c =
    outcome_some _ _ (reason_at 16 0) (fail _ 16 _ (sym c.is_trustee.ensures ∙ c.if-not-is_trustee.true))

pub tables_fit-requires : goal.tables_fit-requires
tables_fit-requires c =
    let a = c.args in
    small_sizes a.inputs a.k a.size.gates a.size.conditional a.table.now c.requires

pub returns-then-not-tables_fit : goal.returns-then-not-tables_fit
unfolding depths_outcome level_reason_of reason_of table_reasons
returns-then-not-tables_fit c =
    let at = goal.at.returns-then-not-tables_fit c in
    outcome_some _ _ (reason_at 17 0) (pass _ 16 _ (trustee at.Else-not-is_trustee)
    ∙ fail _ 17 _ (sym (fit_is at.After-tables_fit) ∙ c.if-not-tables_fit.true))

pub returns-then-not-only_bits : goal.returns-then-not-only_bits
unfolding depths_outcome level_reason_of reason_of table_reasons
returns-then-not-only_bits c =
    let at = goal.at.returns-then-not-only_bits c in
    outcome_some _ _ (reason_at 18 0) (pass _ 16 _ (trustee at.Else-not-is_trustee)
    ∙ pass _ 17 _ (fits at.Else-not-tables_fit (fit_is at.After-tables_fit))
    ∙ fail _ 18 _ (sym c.only_bits.ensures ∙ c.if-not-only_bits.true))

pub returns-then-levels-gates : goal.returns-then-levels-gates
unfolding depths_outcome level_reason_of reason_of table_reasons
returns-then-levels-gates c =
    let at = goal.at.returns-then-levels-gates c in
    let a = c.args in
    outcome_some _ _ (reason_at 200 0) (pass _ 16 _ (trustee at.Else-not-is_trustee)
    ∙ pass _ 17 _ (fits at.Else-not-tables_fit (fit_is at.After-tables_fit)) ∙ pass _ 18 _ (bits at.Else-not-only_bits)
    ∙ fail _ 200 _ (other_long a.inputs (gates_of a.table.now) a.levels.now
    (λ e. c.if-levels-gates.true (e ∙ sym c.requires.gates_are))))

pub returns-in_default : goal.returns-in_default
unfolding depths_outcome level_reason_of reason_of table_reasons
returns-in_default c =
    let at = goal.at.returns-in_default c in
    let a = c.args in
    outcome_some _ _ (reason_at 200 0) (pass _ 16 _ (trustee at.Else-not-is_trustee)
    ∙ pass _ 17 _ (fits at.Else-not-tables_fit (fit_is at.After-tables_fit)) ∙ pass _ 18 _ (bits at.Else-not-only_bits)
    ∙ fail _ 200 _ (other_same a.inputs (gates_of a.table.now) a.levels.now (sym c.compare.ensures ∙ c.in_default.is)))

pub returns-then-rounds-round : goal.returns-then-rounds-round
unfolding depths_outcome level_reason_of reason_of table_reasons
returns-then-rounds-round c =
    let at = goal.at.returns-then-rounds-round c in
    let a = c.args in
    let known = same at.In-Some in
    outcome_some _ _ (reason_at 201 0) (pass _ 16 _ (trustee at.Else-not-is_trustee)
    ∙ pass _ 17 _ (fits at.Else-not-tables_fit (fit_is at.After-tables_fit)) ∙ pass _ 18 _ (bits at.Else-not-only_bits)
    ∙ pass _ 200 _ known.0
    ∙ fail _ 201 _ (lt-leb a.round (rounds_of a.inputs (gates_of a.table.now))
    (omega (arith, c.if-rounds-round.true, known.1))))

pub overflow_mul-conditional : goal.overflow_mul-conditional
overflow_mul-conditional c =
    omega (arith, c.requires.few, c.requires.conditional_are, count_most (gates_of c.args.table.now))

pub returns-then-heard-conditional : goal.returns-then-heard-conditional
unfolding depths_outcome level_reason_of reason_of table_reasons
returns-then-heard-conditional c =
    let at = goal.at.returns-then-heard-conditional c in
    let a = c.args in
    let known = same at.In-Some in
    outcome_some _ _ (reason_at 202 0) (pass _ 16 _ (trustee at.Else-not-is_trustee)
    ∙ pass _ 17 _ (fits at.Else-not-tables_fit (fit_is at.After-tables_fit)) ∙ pass _ 18 _ (bits at.Else-not-only_bits)
    ∙ pass _ 200 _ known.0
    ∙ pass _ 201 _ (le-leb a.round (rounds_of a.inputs (gates_of a.table.now))
    (omega (arith, c.if-rounds-round.false, known.1)))
    ∙ fail _ 202 [] (and_first_fails _ _ (ne_eqb (length a.heard.now) (2 * conditional_count (gates_of a.table.now))
    (λ e. c.if-heard-conditional.true (e ∙ ap (λ (n : ℕ). 2 * n) (sym c.requires.conditional_are))))))

pub returns-then-not-only_bits-2 : goal.returns-then-not-only_bits-2
unfolding depths_outcome level_reason_of reason_of table_reasons
returns-then-not-only_bits-2 c =
    let at = goal.at.returns-then-not-only_bits-2 c in
    let a = c.args in
    let known = same at.In-Some in
    outcome_some _ _ (reason_at 202 0) (pass _ 16 _ (trustee at.Else-not-is_trustee)
    ∙ pass _ 17 _ (fits at.Else-not-tables_fit (fit_is at.After-tables_fit)) ∙ pass _ 18 _ (bits at.Else-not-only_bits)
    ∙ pass _ 200 _ known.0
    ∙ pass _ 201 _ (le-leb a.round (rounds_of a.inputs (gates_of a.table.now))
    (omega (arith, c.if-rounds-round.false, known.1)))
    ∙ fail _ 202 [] (and_both _ _ false (long at.Else-heard-conditional) (sym c.only_bits-2.ensures ∙ c.if-not-only_bits-2.true)))

pub returns : goal.returns
unfolding depths_outcome level_reason_of reason_of table_reasons
returns c =
    let at = goal.at.returns c in
    let a = c.args in
    let known = same at.In-Some in
    outcome_none _ _ _ (pass _ 16 _ (trustee at.Else-not-is_trustee)
    ∙ pass _ 17 _ (fits at.Else-not-tables_fit (fit_is at.After-tables_fit)) ∙ pass _ 18 _ (bits at.Else-not-only_bits)
    ∙ pass _ 200 _ known.0
    ∙ pass _ 201 _ (le-leb a.round (rounds_of a.inputs (gates_of a.table.now))
    (omega (arith, c.if-rounds-round.false, known.1)))
    ∙ pass _ 202 [] (and_both _ _ true (long at.Else-heard-conditional)
    (sym c.only_bits-2.ensures ∙ c.if-not-only_bits-2.false)) ∙ end)
    (depths_are a.inputs a.table.now _ _ _ c.requires.gates_are c.requires.conditional_are known.1)

-- Each branch answers what the definition gives for the outcomes of the tests.
use Rattle.std.proofs.Common.{◌≡◌, ◌∙◌, refl, sym, true, false, length, leb, ◌&&◌}
use Rattle.jury.specs.Reason.{reason_of, refused_for, unless, first_of}
use Rattle.tally.specs.Answer.{size_in}
use Rattle.trustees.specs.Call.{tables_in}
use Rattle.trustees.specs.Reasons.{tables_fit}
use Rattle.trustees.proofs.Reasons.{part_found, part_by, tables_fit_lem, trustees_most}
use Rattle.trustees.proofs.test.test_parts.Goals as goal
use Rattle.trustees.proofs.test.test_parts.Goals.{Else-not-are_trustees, Else-not-tables_fit}

-- the outcomes of the tests
counted : (c : Else-not-are_trustees) → (leb 2 c.args.t && leb c.args.t 5) ≡ true
counted c = sym c.are_trustees.ensures ∙ c.if-not-are_trustees.false

fits : (c : Else-not-tables_fit) → let a = c.args in
    tables_fit (length a.ballots.now) a.outputs (size_in a.size) a.t (tables_in a.lent) ≡ true
fits c = sym c.tables_fit.ensures ∙ c.if-not-tables_fit.false

pub returns-then-not-are_trustees : goal.returns-then-not-are_trustees
unfolding refused_for reason_of part_found unless first_of
returns-then-not-are_trustees c =
    let a = c.args in
    sym (part_by a.outputs (size_in a.size) a.ballots.now a.t (tables_in a.lent) false _ _
    (sym c.are_trustees.ensures ∙ c.if-not-are_trustees.true) refl refl)

pub tables_fit-requires : goal.tables_fit-requires
tables_fit-requires c =
    record {
      sizes = c.requires;
      few = trustees_most c.args.t (counted (goal.at.tables_fit-requires c).Else-not-are_trustees);
    }

pub returns-then-not-tables_fit : goal.returns-then-not-tables_fit
unfolding refused_for reason_of part_found unless first_of
returns-then-not-tables_fit c =
    let a = c.args in
    let at = goal.at.returns-then-not-tables_fit c in
    sym (part_by a.outputs (size_in a.size) a.ballots.now a.t (tables_in a.lent) true false _
    (counted at.Else-not-are_trustees) (sym c.tables_fit.ensures ∙ c.if-not-tables_fit.true) refl)

pub is_dealt_well-requires : goal.is_dealt_well-requires
is_dealt_well-requires c =
    let a = c.args in
    let l = tables_fit_lem (length a.ballots.now) a.outputs (size_in a.size) a.t (tables_in a.lent)
    (fits (goal.at.is_dealt_well-requires c).Else-not-tables_fit) in
    record {
      conditional_most = c.requires.conditional_most;
      ballot_length = l.ballot_length;
      dealer_length = l.dealer_length;
    }

pub returns-then-not-is_dealt_well : goal.returns-then-not-is_dealt_well
unfolding refused_for reason_of part_found unless first_of
returns-then-not-is_dealt_well c =
    let a = c.args in
    let at = goal.at.returns-then-not-is_dealt_well c in
    sym (part_by a.outputs (size_in a.size) a.ballots.now a.t (tables_in a.lent) true true false
    (counted at.Else-not-are_trustees) (fits at.Else-not-tables_fit)
    (sym c.is_dealt_well.ensures ∙ c.if-not-is_dealt_well.true))

pub returns : goal.returns
unfolding refused_for reason_of part_found unless first_of
returns c =
    let a = c.args in
    let at = goal.at.returns c in
    sym (part_by a.outputs (size_in a.size) a.ballots.now a.t (tables_in a.lent) true true true
    (counted at.Else-not-are_trustees) (fits at.Else-not-tables_fit)
    (sym c.is_dealt_well.ensures ∙ c.if-not-is_dealt_well.false))

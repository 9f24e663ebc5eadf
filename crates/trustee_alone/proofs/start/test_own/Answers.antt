-- Each branch answers the reason of the first test that fails.
use Rattle.std.proofs.Common.{◌≡◌, ◌∙◌, sym, true, false, length, eqb}
use borrow.Author.Tests.{eq-eqb, ne_eqb}
use Rattle.basics.proofs.Flags.{and_first_fails}
use Rattle.jury.specs.Reason.{reason_of, refused_for}
use Rattle.tally.specs.Answer.{size_in}
use Rattle.trustee_gates.specs.Dealing.{only_bits}
use Rattle.trustee_alone.specs.Own.{is_trustee, own_tables_fit}
use Rattle.trustee_alone.specs.Start.{own_reasons}
use Rattle.trustee_alone.proofs.Tests.{pass, fail, end, and_both}
use Rattle.trustee_alone.proofs.start.test_own.Goals as goal
use Rattle.trustee_alone.proofs.start.test_own.Goals.{Else-shares-inputs, Else-not-tables_fit, Else-not-only_bits}

-- the outcomes of the tests
long : (c : Else-shares-inputs) → eqb (length c.args.shares.now) c.args.inputs ≡ true
long c = eq-eqb (length c.args.shares.now) c.args.inputs c.if-shares-inputs.false

fits : (c : Else-not-tables_fit) → let a = c.args in
    own_tables_fit a.inputs a.k (size_in a.size) a.own.triples.now a.own.wires.now a.own.published.now ≡ true
fits c = sym c.tables_fit.ensures ∙ c.if-not-tables_fit.false

bits : (c : Else-not-only_bits) → only_bits c.args.shares.now ≡ true
bits c = sym c.only_bits.ensures ∙ c.if-not-only_bits.false

pub returns-then-not-is_trustee : goal.returns-then-not-is_trustee
unfolding refused_for reason_of own_reasons
returns-then-not-is_trustee c = sym (fail _ 16 _ (sym c.is_trustee.ensures ∙ c.if-not-is_trustee.true))

pub returns-then-shares-inputs : goal.returns-then-shares-inputs
unfolding refused_for reason_of own_reasons
returns-then-shares-inputs c =
    sym (pass _ 16 _ (sym c.is_trustee.ensures ∙ c.if-not-is_trustee.false)
    ∙ fail _ 17 _ (and_first_fails _ _ (ne_eqb (length c.args.shares.now) c.args.inputs c.if-shares-inputs.true)))

pub returns-then-not-tables_fit : goal.returns-then-not-tables_fit
unfolding refused_for reason_of own_reasons
returns-then-not-tables_fit c =
    let at = goal.at.returns-then-not-tables_fit c in
    sym (pass _ 16 _ (sym c.is_trustee.ensures ∙ c.if-not-is_trustee.false)
    ∙ fail _ 17 _ (and_both _ _ false (long at.Else-shares-inputs) (sym c.tables_fit.ensures ∙ c.if-not-tables_fit.true)))

pub returns-then-not-only_bits : goal.returns-then-not-only_bits
unfolding refused_for reason_of own_reasons
returns-then-not-only_bits c =
    let at = goal.at.returns-then-not-only_bits c in
    sym (pass _ 16 _ (sym c.is_trustee.ensures ∙ c.if-not-is_trustee.false)
    ∙ pass _ 17 _ (and_both _ _ true (long at.Else-shares-inputs) (fits at.Else-not-tables_fit))
    ∙ fail _ 18 _ (and_first_fails _ _ (sym c.only_bits.ensures ∙ c.if-not-only_bits.true)))

pub returns-then-not-only_bits-2 : goal.returns-then-not-only_bits-2
unfolding refused_for reason_of own_reasons
returns-then-not-only_bits-2 c =
    let at = goal.at.returns-then-not-only_bits-2 c in
    sym (pass _ 16 _ (sym c.is_trustee.ensures ∙ c.if-not-is_trustee.false)
    ∙ pass _ 17 _ (and_both _ _ true (long at.Else-shares-inputs) (fits at.Else-not-tables_fit))
    ∙ fail _ 18 _ (and_both _ _ false (bits at.Else-not-only_bits) (sym c.only_bits-2.ensures ∙ c.if-not-only_bits-2.true)))

pub returns : goal.returns
unfolding refused_for reason_of own_reasons
returns c =
    let at = goal.at.returns c in
    sym (pass _ 16 _ (sym c.is_trustee.ensures ∙ c.if-not-is_trustee.false)
    ∙ pass _ 17 _ (and_both _ _ true (long at.Else-shares-inputs) (fits at.Else-not-tables_fit))
    ∙ pass _ 18 _ (and_both _ _ true (bits at.Else-not-only_bits) (sym c.only_bits-2.ensures ∙ c.if-not-only_bits-2.false)) ∙ end)

-- `urn::facts::check` meets its contract: the facts are the definition's for what the test and the search found.
-- Assumes nothing.
use mathlib.Core.Path.{◌∙◌, sym, ap}
use Prim.Native.Nat.{◌<◌}
use lib.ListN.{length}
use Rattle.std.specs.Prelude.{is_some}
use Rattle.basics.specs.Lists.{member}
use Rattle.urn_chains.specs.Slots.{slot_bytes}
use Rattle.urn_chains.specs.Sound.{slot_count, urn_slots}
use Rattle.urn_chains.proofs.SlotTests.{few_bytes, soundness_sound, soundness_unsound}
use Rattle.urn.specs.inner.Position.{position_in}
use Rattle.urn.proofs.FactLaws.{link_found, its_table, its_long, can_find, jurors_are, full_is, few_ballots, facts_are, no_facts, same_facts}
use native.Mathlib.Omega.{arith}
use Rattle.urn.proofs.facts.check.Goals as goal

pub returns-in_err-ballots : goal.returns-in_err-ballots
returns-in_err-ballots c = rw c.from_residual.ensures (no_facts _ _ _ _ (soundness_unsound _ _ (sym c.in_err-ballots.ensures)))

pub overflow_mul-bytes : goal.overflow_mul-bytes
overflow_mul-bytes c = omega (arith, few_bytes c.args.k c.args.d c.requires)

pub overflow_add-slots : goal.overflow_add-slots
overflow_add-slots c = omega (arith, few_bytes c.args.k c.args.d c.requires)

pub bounds-urn-1 : goal.bounds-urn-1
bounds-urn-1 c =
    let a = c.args in
    let s = soundness_sound _ _ _ (sym c.in_ok-ballots.ensures) in
    let l : 1 < length a.urn.now = omega (arith, its_long a.k a.d a.urn.now c.requires s.0) in
    l

pub find-position-requires : goal.find-position-requires
unfolding slot_count slot_bytes
find-position-requires c =
    let a = c.args in
    let s = soundness_sound _ _ _ (sym c.in_ok-ballots.ensures) in
    record { table = its_table a.k a.d a.urn.now c.requires s.0; inside = can_find a.k a.d a.urn.now c.requires s.0 }

pub returns : goal.returns
unfolding position_in urn_slots slot_count slot_bytes
returns c =
    let a = c.args in
    let s = soundness_sound _ _ _ (sym c.in_ok-ballots.ensures) in
    record {
      told =
          facts_are a.k a.d a.urn.now c.requires s.0 a.juror
          ∙ same_facts _ _ _ _ _ _ (sym s.1)
          (ap (member a.juror) (jurors_are a.k a.d a.urn.now c.requires s.0) ∙ sym (link_found _ _ 0 _)
          ∙ ap is_some (sym c.find-position.ensures) ∙ sym c.is_some.ensures)
          (full_is a.k a.d a.urn.now c.requires s.0);
      few = omega (arith, s.1, few_ballots a.k a.d a.urn.now c.requires s.0);
      placed = c.find-position.ensures;
    }

-- `urn::empty::empty` meets its contract: it answers one of the two reasons, or frees all slots.
-- Assumes nothing.
use mathlib.Core.Path.{◌≡◌, ◌∙◌, sym, ap}
use mathlib.Core.Bool.{true}
use Prim.Native.Nat.{ℕ, ◌*◌}
use lib.Dec.{T}
use lib.ListN.{length}
use Rattle.jury.specs.Shape.{graded_limits}
use Rattle.jury.specs.Reason.{reason_of}
use Rattle.basics.proofs.Flags.{true_T}
use Rattle.urn_chains.specs.Slots.{bytes_of}
use Rattle.urn_chains.specs.Sound.{jury_of_one, slot_count, urn_length}
use Rattle.urn_chains.proofs.BytesLaws.{count_least}
use Rattle.urn_chains.proofs.SlotTests.{counted_false, counted_true, counted_is, few_bytes, table}
use Rattle.urn_chains.specs.Sound.{graded_shape}
use Rattle.urn.specs.Facts.{counted_by}
use Rattle.urn.specs.Empty.{empty_outcome, all_free, emptied}
use Rattle.urn.proofs.Outcomes.{both_parts, outcome_refused, outcome_accepted, none_new, some_old}
use Rattle.urn.proofs.EmptyUrn.{empty_1, empty_13, empty_none}
use native.Mathlib.Omega.{arith}
use Rattle.urn.proofs.empty.empty.Goals as goal
use Rattle.urn.proofs.empty.empty.Goals.{Else-not-is_graded}

-- the shape is that of a graded jury
graded : (c : Else-not-is_graded) → graded_shape c.args.k c.args.d ≡ true
graded c = sym c.is_graded.ensures ∙ c.if-not-is_graded.false

within : (c : Else-not-is_graded) → T (graded_limits (jury_of_one c.args.k c.args.d))
within c = (true_T _ (graded c))

pub returns-then-not-is_graded : goal.returns-then-not-is_graded
unfolding empty_outcome emptied counted_by reason_of
returns-then-not-is_graded c = let a = c.args in
    let e = empty_1 a.k a.d a.urn.now (sym c.is_graded.ensures ∙ c.if-not-is_graded.true) in
    both_parts (outcome_refused _ _ _ e) (some_old _ _ _ _ e)

pub overflow_mul-bytes : goal.overflow_mul-bytes
overflow_mul-bytes c = let a = c.args in
    omega (arith, few_bytes a.k a.d (within (goal.at.overflow_mul-bytes c).Else-not-is_graded))

pub slots_in-slots-requires : goal.slots_in-slots-requires
slots_in-slots-requires c = let a = c.args in
    few_bytes a.k a.d (within (goal.at.slots_in-slots-requires c).Else-not-is_graded)

pub returns-then-slots-eq0 : goal.returns-then-slots-eq0
unfolding empty_outcome emptied counted_by reason_of
returns-then-slots-eq0 c = let a = c.args in
    let b = a.k * a.d in
    let m = length a.urn.now in
    let e = empty_13 a.k a.d a.urn.now (graded (goal.at.returns-then-slots-eq0 c).Else-not-is_graded)
    (counted_false (urn_length b m) (slot_count b m) _ c.slots_in-slots.ensures c.if-slots-eq0.true
    (count_least b m)) in
    both_parts (outcome_refused _ _ _ e) (some_old _ _ _ _ e)

pub free_all-requires : goal.free_all-requires
free_all-requires c = let a = c.args in
    let b = a.k * a.d in
    let m = length a.urn.now in
    table b a.urn.now _ (few_bytes a.k a.d (within (goal.at.free_all-requires c).Else-not-is_graded))
    (counted_true (urn_length b m) (slot_count b m) _ c.slots_in-slots.ensures c.if-slots-eq0.false)
    (counted_is (urn_length b m) (slot_count b m) _ c.slots_in-slots.ensures c.if-slots-eq0.false)

pub returns : goal.returns
unfolding empty_outcome emptied counted_by
returns c = let a = c.args in
    let b = a.k * a.d in
    let m = length a.urn.now in
    let e = empty_none a.k a.d a.urn.now (graded (goal.at.returns c).Else-not-is_graded)
    (counted_true (urn_length b m) (slot_count b m) _ c.slots_in-slots.ensures c.if-slots-eq0.false) in
    both_parts (outcome_accepted _ _ e)
    (c.free_all.ensures
    ∙ ap (λ (n : ℕ). bytes_of (all_free n b)) (counted_is (urn_length b m) (slot_count b m) _ c.slots_in-slots.ensures c.if-slots-eq0.false)
    ∙ sym (none_new _ _ _ e))

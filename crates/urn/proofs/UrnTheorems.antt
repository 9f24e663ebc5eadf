-- An emptied urn is sound and stays sound while ballots are admitted and withdrawn. Withdrawing the ballot that was
-- admitted last gives the urn back.
-- Assumes nothing.
use mathlib.Core.Path.{◌≡◌, ◌∙◌, refl, sym, ap, subst}
use mathlib.Core.Logic.{⊎_elim}
use mathlib.Core.Bool.{Bool, true, false, cond, not, ◌&&◌, ◌||◌}
use mathlib.Core.Option.{Option, none, some}
use mathlib.Core.List.{List, [], ◌∷◌, ◌++◌}
use Prim.Native.Nat.{ℕ, suc, ◌+◌, ◌*◌, ◌-◌}
use native.Mathlib.Omega.{arith}
use lib.Dec.{T, eqb}
use lib.ListN.{length, drop, length-append}
use borrow.Author.Tests.{eq-eqb, not-true}
use Rattle.jury.specs.Shape.{graded_limits}
use Rattle.basics.specs.Lists.{tabulate}
use Rattle.jury.specs.Reason.{Reason, first_of}
use Rattle.basics.proofs.Flags.{and_first, and_second, and_both, true_T, or_first}
use Rattle.tally.specs.Answer.{accepted, outcome}
use Rattle.urn_chains.specs.Slots.{slot_bytes, bytes_of}
use Rattle.urn_chains.specs.Chains.{Entry, ballot_chain, free_chain, first_free, layout}
use Rattle.urn_chains.specs.Sound.{entries_of, free_of, jury_of_one, good_juror, good_ballot, slot_count, urn_slots, sound}
use Rattle.basics.specs.Lists.{all, member, distinct}
use Rattle.urn_chains.specs.Sound.{graded_shape}
use Rattle.urn.specs.Facts.{jurors_of, facts_of, UrnFacts, sound_in, ballots_in, present_in}
use Rattle.urn.specs.Admit.{admit_reasons, admit_outcome_by, with_ballot, admitted}
use Rattle.urn.specs.Withdraw.{withdraw_reasons, withdraw_outcome_by, without_juror, slot_of_juror, without_ballot, withdrawn}
use Rattle.urn.specs.Empty.{empty_reasons, empty_outcome, all_free, emptied}
use Rattle.urn.specs.Theorems.{AfterEmptying, AfterAdmission, AfterWithdrawal, UrnHolds}
use Rattle.urn_chains.proofs.Lists.{all_rest, all_cons, all_move, distinct_rest, distinct_cons, distinct_move, eqb_sym}
use Rattle.urn_chains.proofs.Marks.{true_or_false}
use Rattle.urn_chains.proofs.Layouts.{layout_length}
use Rattle.urn_chains.proofs.BytesLaws.{table_is, count_least, count_most}
use Rattle.urn_chains.proofs.SoundLayouts.{Good, chains_good, Written, bytes_written, written, laid_out, sound_is_laid_out}
use Rattle.urn.proofs.AdmittedSlots.{fit_admit}
use Rattle.urn.proofs.AdmittedBytes.{not_empty}
use Rattle.urn.proofs.WithdrawnSlots.{fit_withdraw}
use Rattle.urn.proofs.EmptyUrn.{all_fit, empty_accepted}
use Rattle.urn.proofs.FactLaws.{facts_are, facts_sound, facts_free, facts_present}
pub use Rattle.urn.proofs.Previews.{previews_tell}
use Rattle.urn.proofs.Outcomes.{admissible, withdrawable, accepted_none, none_new, withdraw_first_lem, withdraw_none}

module _ (k d : ℕ) (urn : List ℕ) (e : sound k d urn ≡ true) where
  good : Good k d (length (urn_slots k d urn)) (entries_of k d urn) (free_of k d urn)
  good = let l = laid_out k d urn e in chains_good k d (length (urn_slots k d urn)) (entries_of k d urn) (free_of k d urn) l.least l.good

  long : length urn ≡ length (urn_slots k d urn) * slot_bytes (k * d)
  long = (written k d (length (urn_slots k d urn)) (entries_of k d urn) (free_of k d urn) urn (laid_out k d urn e)).size

-- good chains with one more ballot, in what was the first free slot, are good
more_good : (k d n : ℕ) (x : Entry) (es : List Entry) (is : List ℕ) → Good k d n es (x.slot ∷ is)
    → good_juror x.juror ≡ true → member x.juror (jurors_of es) ≡ false → good_ballot k d x.ballot ≡ true
    → Good k d n (x ∷ es) is
unfolding jurors_of
more_good k d n x es is g j m y =
    record {
      fit = fit_admit n x es is g.fit;
      jurors = all_cons (λ (z : Entry). good_juror z.juror) x es j g.jurors;
      jurors_once = distinct_cons x.juror (jurors_of es) m g.jurors_once;
      ballots = all_cons (λ (z : Entry). good_ballot k d z.ballot) x es y g.ballots;
    }

map_append : (xs ys : List Entry) → jurors_of (xs ++ ys) ≡ jurors_of xs ++ jurors_of ys
unfolding jurors_of
map_append [] ys = refl
map_append (x ∷ xs) ys = ap (λ (zs : List ℕ). x.juror ∷ zs) (map_append xs ys)

less_good : (k d n : ℕ) (pre : List Entry) (x : Entry) (post : List Entry) (is : List ℕ)
    → Good k d n (pre ++ (x ∷ post)) is → Good k d n (pre ++ post) (x.slot ∷ is)
unfolding jurors_of
less_good k d n pre x post is g =
    record {
      fit = fit_withdraw n pre x post is g.fit;
      jurors = all_rest (λ (z : Entry). good_juror z.juror) x (pre ++ post)
          (sym (all_move (λ (z : Entry). good_juror z.juror) pre x post) ∙ g.jurors);
      jurors_once = ap distinct (map_append pre post)
          ∙ distinct_rest x.juror (jurors_of pre ++ jurors_of post)
          (sym (distinct_move (jurors_of pre) x.juror (jurors_of post))
          ∙ ap distinct (sym (map_append pre (x ∷ post))) ∙ g.jurors_once);
      ballots = all_rest (λ (z : Entry). good_ballot k d z.ballot) x (pre ++ post)
          (sym (all_move (λ (z : Entry). good_ballot k d z.ballot) pre x post) ∙ g.ballots);
    }

-- the ballots before and after that of a juror who has one
juror_split : (j : ℕ) (es : List Entry) → member j (jurors_of es) ≡ true → (pre : List Entry) × (x : Entry)
    × (post : List Entry) × (es ≡ pre ++ (x ∷ post)) × (without_juror j es ≡ pre ++ post) × (slot_of_juror j es ≡ x.slot)
unfolding jurors_of member without_juror slot_of_juror
juror_split j [] m = let z : ◌≡◌ {A = ℕ} 0 1 = cc in absurd (omega arith)
juror_split j (x ∷ es) m =
    ⊎_elim
    (λ t. ([], x, es, refl, ap (λ (u : Bool). cond u es (x ∷ without_juror j es)) t, ap (λ (u : Bool). cond u x.slot (slot_of_juror j es)) t))
    (λ t. let r = juror_split j es (ap (λ (u : Bool). u || member j (jurors_of es)) (sym (eqb_sym j x.juror ∙ t)) ∙ m) in (
      x ∷ r.0,
      r.1,
      r.2,
      ap (λ (xs : List Entry). x ∷ xs) r.3,
      ap (λ (u : Bool). cond u es (x ∷ without_juror j es)) t ∙ ap (λ (xs : List Entry). x ∷ xs) r.4,
      ap (λ (u : Bool). cond u x.slot (slot_of_juror j es)) t ∙ r.5,
    ))
    (true_or_false (eqb x.juror j))

juror_absent_is : (k d : ℕ) (urn : List ℕ) (j : ℕ) → sound k d urn ≡ true → not (present_in (facts_of k d urn j)) ≡ true
    → member j (jurors_of (ballot_chain (urn_slots k d urn))) ≡ false
unfolding facts_of
juror_absent_is k d urn j e h = not-true _ (rw e at h)

-- withdrawing the ballot that was admitted last
undo : (k d : ℕ) (urn : List ℕ) → T (graded_limits (jury_of_one k d)) → sound k d urn ≡ true → (j : ℕ) (x u : List ℕ) (is : List ℕ) →
    Written k d (length (urn_slots k d urn))
    (record { slot = first_free (free_chain (urn_slots k d urn)); juror = j; ballot = x } ∷ ballot_chain
    (urn_slots k d urn)) is u →
    graded_shape k d ≡ true → good_juror j ≡ true → free_chain (urn_slots k d urn)
    ≡ first_free (free_chain (urn_slots k d urn)) ∷ is → withdrawn k d u j ≡ urn
unfolding withdrawn without_ballot without_juror slot_of_juror jurors_of member
undo k d urn w e j x u is wr a gj cut =
    let S = urn_slots k d urn in
    let es = ballot_chain S in
    let i = first_free (free_chain S) in
    let y : Entry = record { slot = i; juror = j; ballot = x } in
    let f = facts_are k d u w wr.is_sound j in
    let inn : member j (jurors_of (ballot_chain (urn_slots k d u))) ≡ true =
    ap (λ (xs : List Entry). member j (jurors_of xs)) wr.ballots
    ∙ or_first (eqb j j) (member j (jurors_of es)) (eq-eqb j j refl) in
    let o : first_of (withdraw_reasons k d (facts_of k d u j) j) ≡ none = withdraw_first_lem k d (facts_of k d u j) j
    ∙ withdraw_none (graded_shape k d) (sound_in (facts_of k d u j)) (good_juror j && (present_in (facts_of k d u j))) a
    (ap (λ (z : UrnFacts). sound_in z) f)
    (and_both (good_juror j) (present_in (facts_of k d u j)) gj (ap (λ (z : UrnFacts). present_in z) f ∙ inn)) in
    let size : length (urn_slots k d u) ≡ length S = ap length wr.slots ∙ layout_length (length S) (k * d) (y ∷ es) is in
    none_new (first_of (withdraw_reasons k d (facts_of k d u j) j)) (bytes_of (without_ballot (k * d) (urn_slots k d u) j)) u o
    ∙ ap (λ (m : ℕ). bytes_of (layout m (k * d) (without_juror j (ballot_chain (urn_slots k d u)))
    (slot_of_juror j (ballot_chain (urn_slots k d u)) ∷ free_chain (urn_slots k d u)))) size
    ∙ ap (λ (xs : List Entry). bytes_of
    (layout (length S) (k * d) (without_juror j xs) (slot_of_juror j xs ∷ free_chain (urn_slots k d u)))) wr.ballots
    ∙ ap (λ (ks : List ℕ). bytes_of (layout (length S) (k * d) (without_juror j (y ∷ es)) (slot_of_juror j (y ∷ es) ∷ ks))) wr.free
    ∙ ap (λ (t : Bool). bytes_of (layout (length S) (k * d) (cond t es (y ∷ without_juror j es))
    (cond t i (slot_of_juror j es) ∷ is))) (eq-eqb j j refl)
    ∙ ap (λ (ks : List ℕ). bytes_of (layout (length S) (k * d) es ks)) (sym cut)
    ∙ sym (laid_out k d urn e).bytes

-- the count that an accepted call answers
count_outcome : (o : Option Reason) (v count : ℕ) → outcome o v ≡ accepted count → count ≡ v
unfolding outcome
count_outcome none v count e = cc
count_outcome (some r) v count e = let z : ◌≡◌ {A = ℕ} 0 1 = cc in absurd (omega arith)

after_admission : (k d : ℕ) (urn : List ℕ) (j : ℕ) (x : List ℕ) (count : ℕ)
    → admit_outcome_by k d (facts_of k d urn j) j x ≡ accepted count → AfterAdmission k d urn j x count
unfolding admit_outcome_by admitted with_ballot withdrawn without_ballot
after_admission k d urn j x count h =
    let f = facts_of k d urn j in
    let o = accepted_none (first_of (admit_reasons k d f j x)) (ballots_in f + 1) count h in
    let p = admissible k d f j x o in
    let w = (true_T (graded_shape k d) p.graded) in
    let e = facts_sound k d urn j p.is_sound in
    let S = urn_slots k d urn in
    let n = length S in
    let es = ballot_chain S in
    let is = free_chain S in
    let cut = not_empty is (facts_free k d urn j e p.free) in
    let y : Entry = record { slot = first_free is; juror = j; ballot = x } in
    let gj = and_first (good_juror j) (not (present_in f)) p.juror in
    let g = more_good k d n y es (drop 1 is) (subst (λ (ks : List ℕ). Good k d n es ks) cut (good k d urn e)) gj
    (juror_absent_is k d urn j e (and_second (good_juror j) (not (present_in f)) p.juror)) p.ballot in
    let u = bytes_of (layout n (k * d) (y ∷ es) (drop 1 is)) in
    let wr = bytes_written k d n (y ∷ es) (drop 1 is) (laid_out k d urn e).least (laid_out k d urn e).most g in
    let new = none_new (first_of (admit_reasons k d f j x)) u urn o in
    let back : withdrawn k d u j ≡ urn = undo k d urn w e j x u (drop 1 is) wr p.graded gj cut in
    let before : ballots_in f ≡ length es = ap (λ (z : UrnFacts). ballots_in z) (facts_are k d urn w e j) in
    let chain = ap (λ (v : List ℕ). ballot_chain (urn_slots k d v)) new ∙ wr.ballots in
    let after : length (ballot_chain (urn_slots k d (admitted k d urn j x))) ≡ suc (length es) = ap length chain in
    record {
      stays_sound = ap (sound k d) new ∙ wr.is_sound;
      same_length = ap length new ∙ wr.size ∙ sym (long k d urn e);
      ballots = chain;
      counted = omega (arith, count_outcome (first_of (admit_reasons k d f j x)) (ballots_in f + 1) count h, before, after);
      free = ap (λ (v : List ℕ). free_chain (urn_slots k d v)) new ∙ wr.free;
      undone = ap (λ (v : List ℕ). withdrawn k d v j) new ∙ back;
    }

-- after emptying, all slots are free
after_emptying : (k d : ℕ) (table : List ℕ) (count : ℕ) → empty_outcome k d table ≡ accepted count → AfterEmptying k d table count
unfolding empty_outcome emptied all_free jurors_of all distinct
after_emptying k d table count h =
    let b = k * d in
    let m = length table in
    let n = slot_count b m in
    let is = tabulate (n - 1) suc in
    let o = accepted_none (first_of (empty_reasons k d table)) 0 count h in
    let l = empty_accepted k d table o in
    let g : Good k d n [] is = record { fit = all_fit n (count_least b m l); jurors = refl; jurors_once = refl; ballots = refl } in
    let u = bytes_of (layout n b [] is) in
    let wr = bytes_written k d n [] is (count_least b m l) (count_most b m l) g in
    let new = none_new (first_of (empty_reasons k d table)) u table o in
    let chain = ap (λ (v : List ℕ). ballot_chain (urn_slots k d v)) new ∙ wr.ballots in
    record {
      made_sound = ap (sound k d) new ∙ wr.is_sound;
      same_length = ap length new ∙ wr.size ∙ sym (table_is b m l);
      ballots = chain;
      counted = count_outcome (first_of (empty_reasons k d table)) 0 count h ∙ sym (ap length chain);
      free = ap (λ (v : List ℕ). free_chain (urn_slots k d v)) new ∙ wr.free;
    }

-- an admission takes the first free slot
again : (k d : ℕ) (urn : List ℕ) (es : List Entry) (s : ℕ) (is : List ℕ) → ballot_chain (urn_slots k d urn) ≡ es
    → free_chain (urn_slots k d urn) ≡ s ∷ is → (j : ℕ) (x : List ℕ) (count : ℕ) → AfterAdmission k d urn j x count →
    (ballot_chain (urn_slots k d (admitted k d urn j x)) ≡ record { slot = s; juror = j; ballot = x } ∷ es)
    × (free_chain (urn_slots k d (admitted k d urn j x)) ≡ is)
unfolding first_free
again k d urn es s is e f j x count a = (
  a.ballots
      ∙ ap (λ (ks : List ℕ). record { slot = first_free ks; juror = j; ballot = x } ∷ ballot_chain (urn_slots k d urn)) f
      ∙ ap (λ (xs : List Entry). record { slot = s; juror = j; ballot = x } ∷ xs) e,
  a.free ∙ ap (drop 1) f,
)

after_withdrawal : (k d : ℕ) (urn : List ℕ) (j count : ℕ) → withdraw_outcome_by k d (facts_of k d urn j) j
    ≡ accepted count → AfterWithdrawal k d urn j count
unfolding withdraw_outcome_by withdrawn without_ballot
after_withdrawal k d urn j count h =
    let f = facts_of k d urn j in
    let o = accepted_none (first_of (withdraw_reasons k d f j)) (ballots_in f - 1) count h in
    let p = withdrawable k d f j o in
    let w = (true_T (graded_shape k d) p.graded) in
    let e = facts_sound k d urn j p.is_sound in
    let S = urn_slots k d urn in
    let n = length S in
    let es = ballot_chain S in
    let is = free_chain S in
    let r = juror_split j es (facts_present k d urn j e (and_second (good_juror j) (present_in f) p.juror)) in
    let g₀ = less_good k d n r.0 r.1 r.2 is (subst (λ (xs : List Entry). Good k d n xs is) r.3 (good k d urn e)) in
    let g = subst (λ (s : ℕ). Good k d n (without_juror j es) (s ∷ is)) (sym r.5)
    (subst (λ (xs : List Entry). Good k d n xs (r.1.slot ∷ is)) (sym r.4) g₀) in
    let u = bytes_of (layout n (k * d) (without_juror j es) (slot_of_juror j es ∷ is)) in
    let wr = bytes_written k d n (without_juror j es) (slot_of_juror j es ∷ is) (laid_out k d urn e).least (laid_out k d urn e).most g in
    let new = none_new (first_of (withdraw_reasons k d f j)) u urn o in
    let before : ballots_in f ≡ length es = ap (λ (z : UrnFacts). ballots_in z) (facts_are k d urn w e j) in
    let chain = ap (λ (v : List ℕ). ballot_chain (urn_slots k d v)) new ∙ wr.ballots in
    let free = ap (λ (v : List ℕ). free_chain (urn_slots k d v)) new ∙ wr.free in
    let with_one : length es ≡ length r.0 + suc (length r.2) = ap length r.3 ∙ length-append r.0 (r.1 ∷ r.2) in
    let after : length (ballot_chain (urn_slots k d (withdrawn k d urn j))) ≡ length r.0 + length r.2 =
    ap length (chain ∙ r.4) ∙ length-append r.0 r.2 in
    record {
      stays_sound = ap (sound k d) new ∙ wr.is_sound;
      same_length = ap length new ∙ wr.size ∙ sym (long k d urn e);
      ballots = chain;
      counted = omega (arith, count_outcome (first_of (withdraw_reasons k d f j)) (ballots_in f - 1) count h, before, with_one, after);
      free = free;
      taken_again = λ next ballot more a.
          again k d (withdrawn k d urn j) (without_juror j es) (slot_of_juror j es) is chain free next ballot more
          (after_admission k d (withdrawn k d urn j) next ballot more a);
    }

pub urn_holds : UrnHolds
urn_holds = record {
  sound_means = sound_is_laid_out;
  emptying = after_emptying;
  admission = after_admission;
  withdrawal = after_withdrawal;
}

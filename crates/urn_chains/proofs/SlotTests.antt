-- The test of an urn's slots, from its bytes.
-- Assumes nothing.
use mathlib.Core.Path.{◌≡◌, ◌∙◌, refl, sym, ap}
use mathlib.Core.Logic.{⊎_elim}
use mathlib.Core.Bool.{Bool, true, false, cond}
use mathlib.Core.List.{List}
use Prim.Native.Nat.{ℕ, ◌+◌, ◌*◌, ◌-◌, ◌≤◌, ◌<◌}
use native.Mathlib.Nat.{zero-mul, mul-le-mul}
use native.Mathlib.Omega.{arith}
use lib.Dec.{T}
use lib.ListN.{length, get_or, take, drop, length-map}
use Rattle.std.specs.Prelude.{Some, None}
use Rattle.jury.specs.Shape.{most_candidates, most_grades, graded_limits}
use Rattle.basics.proofs.Flags.{never_true}
use Rattle.jury.proofs.Limits.{within_T}
use Rattle.urn_chains.specs.Slots.{slot_bytes, slots_of, slot_at}
use Rattle.urn_chains.specs.Chains.{chain, entry_at, ballot_slots, ballot_chain, free_chain}
use Rattle.urn_chains.specs.Sound.{jury_of_one, all_zero, slot_count, urn_length, sound_slots}
use Rattle.urn_chains.specs.inner.Table.{SlotTable, soundness}
use Rattle.urn_chains.specs.inner.Walk.{no_marks, mark_all, ballots_from, free_from}
use Rattle.urn_chains.proofs.SlotLaws.{slots_length, next_is, juror_is, ballot_is}
use Rattle.urn_chains.proofs.Marks.{true_or_false}
use Rattle.urn_chains.proofs.BytesLaws.{table_is, count_least, count_most}
use Rattle.urn_chains.proofs.SoundLaws.{sound_parts, parts_sound, parts_found, found_parts}

pub clash : (t : Bool) → t ≡ true → t ≡ false → ⊥
clash t e f = let z : ◌≡◌ {A = Bool} true false = sym e ∙ f in let w : ◌≡◌ {A = ℕ} 0 1 = cc in omega arith

pub unsound_is : (t : Bool) (m : ℕ) → t ≡ false → None ≡ soundness t m
unfolding soundness
unsound_is t m e = ap (λ (u : Bool). soundness u m) (sym e)

pub sound_is : (t : Bool) (m c : ℕ) → t ≡ true → c ≡ m → Some c ≡ soundness t m
unfolding soundness
sound_is t m c e f = ap Some f ∙ ap (λ (u : Bool). soundness u m) (sym e)

module _ (b n : ℕ) (urn : List ℕ) (t : SlotTable b n urn) where
  pub head_next : (slot_at (slots_of b n urn) 0).next ≡ get_or urn 0 0
  head_next = next_is b n urn 0 (omega (arith, t.least)) ∙ ap (λ (m : ℕ). get_or urn m 0) (zero-mul (slot_bytes b))

  pub head_juror : (slot_at (slots_of b n urn) 0).juror ≡ get_or urn 1 0
  head_juror = juror_is b n urn 0 (omega (arith, t.least))
      ∙ ap (λ (m : ℕ). get_or urn m 0) {x = 0 * slot_bytes b + 1} {y = 1} (omega (arith, zero-mul (slot_bytes b)))

  pub head_ballot : (slot_at (slots_of b n urn) 0).ballot ≡ take b (drop 2 urn)
  head_ballot = ballot_is b n urn 0 (omega (arith, t.least)) t.size
      ∙ ap (λ (m : ℕ). take b (drop m urn)) {x = 0 * slot_bytes b + 2} {y = 2} (omega (arith, zero-mul (slot_bytes b)))

  pub slots_by_bytes : ballot_slots (slots_of b n urn) ≡ chain n (get_or urn 0 0) (slots_of b n urn)
  unfolding ballot_slots
  slots_by_bytes =
      ap (λ (m : ℕ). chain m (slot_at (slots_of b n urn) 0).next (slots_of b n urn)) (slots_length b n urn)
      ∙ ap (λ (i : ℕ). chain n i (slots_of b n urn)) head_next

  pub free_by_bytes : free_chain (slots_of b n urn) ≡ chain n (get_or urn 1 0) (slots_of b n urn)
  unfolding free_chain
  free_by_bytes =
      ap (λ (m : ℕ). chain m (slot_at (slots_of b n urn) 0).juror (slots_of b n urn)) (slots_length b n urn)
      ∙ ap (λ (i : ℕ). chain n i (slots_of b n urn)) head_juror

  pub count_by_bytes : length (ballot_chain (slots_of b n urn)) ≡ length (chain n (get_or urn 0 0) (slots_of b n urn))
  unfolding ballot_chain
  count_by_bytes = length-map (ballot_slots (slots_of b n urn)) (entry_at (slots_of b n urn)) ∙ ap length slots_by_bytes

-- What the program's tests find.
pub record Tests (k d n : ℕ) (urn : List ℕ) : Type 0 where
  pub head : all_zero (take (k * d) (drop 2 urn)) ≡ true
  pub ballots : ballots_from k d (slots_of (k * d) n urn) n (get_or urn 0 0) no_marks no_marks ≡ true
  pub free : free_from (slots_of (k * d) n urn) n (get_or urn 1 0) (mark_all (chain n (get_or urn 0 0) (slots_of (k * d) n urn)) no_marks) ≡ true
  pub count : length (chain n (get_or urn 0 0) (slots_of (k * d) n urn)) + length (chain n (get_or urn 1 0) (slots_of (k * d) n urn)) ≡ n - 1

module _ (k d n : ℕ) (urn : List ℕ) (t : SlotTable (k * d) n urn) where
  many : 0 < length (slots_of (k * d) n urn)
  many = omega (arith, slots_length (k * d) n urn, t.least)

  not_many : length (slots_of (k * d) n urn) ≤ 256
  not_many = omega (arith, slots_length (k * d) n urn, t.most)

  pub tests_sound : Tests k d n urn → sound_slots k d (slots_of (k * d) n urn) ≡ true
  tests_sound f =
      let S = slots_of (k * d) n urn in
      parts_sound k d S (found_parts k d S many not_many
      (record {
        head = ap all_zero (head_ballot (k * d) n urn t) ∙ f.head;
        ballots = ap (λ (m : ℕ). ballots_from k d S m (slot_at S 0).next no_marks no_marks)
            (slots_length (k * d) n urn) ∙ ap (λ (i : ℕ). ballots_from k d S n i no_marks no_marks)
            (head_next (k * d) n urn t) ∙ f.ballots;
        free =
            ap (λ (m : ℕ). free_from S m (slot_at S 0).juror (mark_all (ballot_slots S) no_marks)) (slots_length (k * d) n urn)
            ∙ ap (λ (i : ℕ). free_from S n i (mark_all (ballot_slots S) no_marks)) (head_juror (k * d) n urn t)
            ∙ ap (λ (is : List ℕ). free_from S n (get_or urn 1 0) (mark_all is no_marks)) (slots_by_bytes (k * d) n urn t)
            ∙ f.free;
        count = omega (
          arith,
          ap length (slots_by_bytes (k * d) n urn t),
          ap length (free_by_bytes (k * d) n urn t),
          slots_length (k * d) n urn,
          f.count,
        );
      }))

  pub sound_tests : sound_slots k d (slots_of (k * d) n urn) ≡ true → Tests k d n urn
  sound_tests e =
      let S = slots_of (k * d) n urn in
      let f = parts_found k d S many not_many (sound_parts k d S e) in
      record {
        head = ap all_zero (sym (head_ballot (k * d) n urn t)) ∙ f.head;
        ballots = sym (ap (λ (m : ℕ). ballots_from k d S m (slot_at S 0).next no_marks no_marks)
            (slots_length (k * d) n urn) ∙ ap (λ (i : ℕ). ballots_from k d S n i no_marks no_marks)
            (head_next (k * d) n urn t)) ∙ f.ballots;
        free =
            sym (ap (λ (m : ℕ). free_from S m (slot_at S 0).juror (mark_all (ballot_slots S) no_marks)) (slots_length (k * d) n urn)
            ∙ ap (λ (i : ℕ). free_from S n i (mark_all (ballot_slots S) no_marks)) (head_juror (k * d) n urn t)
            ∙ ap (λ (is : List ℕ). free_from S n (get_or urn 1 0) (mark_all is no_marks)) (slots_by_bytes (k * d) n urn t))
            ∙ f.free;
        count = omega (
          arith,
          ap length (slots_by_bytes (k * d) n urn t),
          ap length (free_by_bytes (k * d) n urn t),
          slots_length (k * d) n urn,
          f.count,
        );
      }

  -- an urn that fails a test is unsound
  pub unsound : (Tests k d n urn → ⊥) → (m : ℕ) → None ≡ soundness (sound_slots k d (slots_of (k * d) n urn)) m
  unsound f m = unsound_is _ m (never_true _ (λ e. f (sound_tests e)))

-- the program's number of slots is 0 exactly if no urn has that length
module _ (t : Bool) (count r : ℕ) (is : r ≡ cond t count 0) where
  pub counted_false : r ≡ 0 → (t ≡ true → 2 ≤ count) → t ≡ false
  counted_false e f = never_true t (λ h. let q = is ∙ ap (λ (u : Bool). cond u count 0) h in let l = f h in omega arith)

  pub counted_true : (r ≡ 0 → ⊥) → t ≡ true
  counted_true n = ⊎_elim (λ h. h) (λ h. absurd (n (is ∙ ap (λ (u : Bool). cond u count 0) h))) (true_or_false t)

  pub counted_is : (r ≡ 0 → ⊥) → r ≡ count
  counted_is n = is ∙ ap (λ (u : Bool). cond u count 0) (counted_true n)

pub few_bytes : (k d : ℕ) → T (graded_limits (jury_of_one k d)) → k * d ≤ most_candidates * most_grades
unfolding jury_of_one
few_bytes k d h = let w = within_T (jury_of_one k d) h in let l =
    mul-le-mul {n₁ = k} {m₁ = d} {n₂ = most_candidates} {m₂ = most_grades} w.k_most w.d_most in omega arith

-- bytes with the length of an urn are a table of slots
pub table : (b : ℕ) (urn : List ℕ) (n : ℕ) → b ≤ most_candidates * most_grades
    → urn_length b (length urn) ≡ true → n ≡ slot_count b (length urn) → SlotTable b n urn
table b urn n f e q =
    record {
      size = table_is b (length urn) e ∙ ap (λ (m : ℕ). m * slot_bytes b) (sym q);
      least = omega (arith, count_least b (length urn) e);
      most = omega (arith, count_most b (length urn) e);
      few = f;
    }

pub soundness_sound : (t : Bool) (m c : ℕ) → soundness t m ≡ Some c → (t ≡ true) × (c ≡ m)
unfolding soundness
soundness_sound true m c e = (refl, cc)
soundness_sound false m c e = let z : ◌≡◌ {A = ℕ} 0 1 = cc in absurd (omega arith)

pub soundness_unsound : (t : Bool) (m : ℕ) → soundness t m ≡ None → t ≡ false
unfolding soundness
soundness_unsound true m e = let z : ◌≡◌ {A = ℕ} 0 1 = cc in absurd (omega arith)
soundness_unsound false m e = refl

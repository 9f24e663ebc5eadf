-- The bytes of an urn after an admission.
-- Assumes nothing.
use mathlib.Core.Path.{◌≡◌, ◌∙◌, refl, sym, ap, subst}
use mathlib.Core.Bool.{true, false}
use mathlib.Core.List.{List, [], ◌∷◌, ◌++◌}
use Prim.Native.Nat.{ℕ, ◌+◌, ◌*◌, ◌≤◌, ◌<◌}
use native.Mathlib.Nat.{zero-mul}
use native.Mathlib.Omega.{arith}
use lib.Dec.{T}
use lib.ListN.{length, get_or, set, take, drop, length-set, length-append, length-take, length-drop}
use lib.Seq.{set-set}
use Rattle.jury.specs.Shape.{graded_limits}
use Rattle.basics.proofs.Flags.{and_second}
use Rattle.urn_chains.specs.Slots.{Slot, slot_bytes, slot_of, slots_of, bytes_of, slot_at}
use Rattle.urn_chains.specs.Chains.{ballot_slots, ballot_chain, free_chain, first_entry, first_free, head_slot}
use Rattle.basics.specs.Lists.{all}
use Rattle.urn_chains.specs.Sound.{jury_of_one, in_urn, slot_count, urn_slots, sound}
use Rattle.urn.specs.Facts.{is_empty}
use Rattle.urn.specs.Admit.{with_ballot}
use Rattle.urn_chains.proofs.SlotLaws.{slots_length, slot_within, next_is}
use Rattle.urn_chains.proofs.Lists.{all_append, all_first}
use Rattle.urn_chains.proofs.Linked.{FreeLinked, at_set, at_other, below, positive}
use Rattle.urn_chains.proofs.Layouts.{Fit}
use Rattle.urn_chains.proofs.BytesLaws.{Sized, slots_sized, bytes_back}
use Rattle.urn.proofs.SlotBytes.{put_slots, set_next, set_head_juror}
use Rattle.urn_chains.proofs.SlotTests.{head_next, head_juror}
use Rattle.urn_chains.proofs.SoundLayouts.{its_parts, its_length, held, held_free, head_is, head_first, head_free, fits}
use Rattle.urn.proofs.AdmittedSlots.{admit_slots}
use Rattle.urn.proofs.FactLaws.{its_table}

-- the slots after both indexes of slot 0 are overwritten
pub head_set : (b n : ℕ) (u : List ℕ) (v w : ℕ) → length u ≡ n * slot_bytes b → 0 < n →
    slots_of b n (set (set u 0 v) 1 w) ≡ set (slots_of b n u) 0 (record { next = v; juror = w; ballot = (slot_at (slots_of b n u) 0).ballot })
head_set b n u v w e h =
    let S = slots_of b n u in
    let A : Slot = record { next = v; juror = (slot_at S 0).juror; ballot = (slot_at S 0).ballot } in
    let first : slots_of b n (set u 0 v) ≡ set S 0 A =
    ap (λ (m : ℕ). slots_of b n (set u m v)) (sym (zero-mul (slot_bytes b))) ∙ set_next 0 b n u v e h in
    let top : slot_at (slots_of b n (set u 0 v)) 0 ≡ A = ap (λ (ss : List Slot). slot_at ss 0) first
    ∙ at_set S 0 A (omega (arith, slots_length b n u)) in
    set_head_juror b n (set u 0 v) w (length-set u 0 v ∙ e) h
    ∙ ap (λ (s : Slot). set (slots_of b n (set u 0 v)) 0 (record { next = s.next; juror = w; ballot = s.ballot })) top
    ∙ ap (λ (ss : List Slot). set ss 0 (record { next = v; juror = w; ballot = (slot_at S 0).ballot })) first
    ∙ set-set S 0 A (record { next = v; juror = w; ballot = (slot_at S 0).ballot })

pub not_empty : (is : List ℕ) → is_empty is ≡ false → is ≡ first_free is ∷ drop 1 is
unfolding is_empty first_free
not_empty [] e = let z : ◌≡◌ {A = ℕ} 0 1 = cc in absurd (omega arith)
not_empty (i ∷ is) e = refl

-- replacing some bytes by equally many keeps the length
pub splice_length : (urn bytes : List ℕ) (at size : ℕ) → at + size ≤ length urn → length bytes ≡ size
    → length (take at urn ++ bytes ++ drop (at + size) urn) ≡ length urn
splice_length urn bytes at size h e =
    omega (
      arith,
      length-append (take at urn ++ bytes) (drop (at + size) urn),
      length-append (take at urn) bytes,
      length-take at urn,
      length-drop (at + size) urn,
    )

module _ (k d : ℕ) (urn : List ℕ) (w : T (graded_limits (jury_of_one k d))) (e : sound k d urn ≡ true)
    (ne : is_empty (free_chain (urn_slots k d urn)) ≡ false) where
  sized : Sized (k * d) (urn_slots k d urn)
  unfolding urn_slots
  sized = slots_sized (k * d) (slot_count (k * d) (length urn)) urn (its_table k d urn w e).size

  many : 2 ≤ length (urn_slots k d urn)
  many = omega (arith, its_length k d urn e, (its_table k d urn w e).least)

  -- the first free slot is the one that slot 0 names
  pub free_named : get_or urn 1 0 ≡ first_free (free_chain (urn_slots k d urn))
  unfolding urn_slots
  free_named = sym (head_juror (k * d) (slot_count (k * d) (length urn)) urn (its_table k d urn w e))
      ∙ head_free k d (k * d) (urn_slots k d urn) many (its_parts k d urn e) sized

  first_named : get_or urn 0 0 ≡ first_entry (ballot_chain (urn_slots k d urn))
  unfolding urn_slots
  first_named = sym (head_next (k * d) (slot_count (k * d) (length urn)) urn (its_table k d urn w e))
      ∙ head_first k d (k * d) (urn_slots k d urn) many (its_parts k d urn e) sized

  free_in : in_urn (length (urn_slots k d urn)) (get_or urn 1 0) ≡ true
  free_in =
      ap (in_urn (length (urn_slots k d urn))) free_named
      ∙ all_first (in_urn (length (urn_slots k d urn))) (first_free (free_chain (urn_slots k d urn))) (drop 1 (free_chain (urn_slots k d urn)))
      (ap (all (in_urn (length (urn_slots k d urn)))) (sym (not_empty (free_chain (urn_slots k d urn)) ne))
      ∙ and_second (all (in_urn (length (urn_slots k d urn))) (ballot_slots (urn_slots k d urn)))
      (all (in_urn (length (urn_slots k d urn))) (free_chain (urn_slots k d urn)))
      (sym (all_append (in_urn (length (urn_slots k d urn))) (ballot_slots (urn_slots k d urn))
      (free_chain (urn_slots k d urn))) ∙ (its_parts k d urn e).inside))

  pub free_below : get_or urn 1 0 < slot_count (k * d) (length urn)
  free_below = omega (arith, below (length (urn_slots k d urn)) (get_or urn 1 0) free_in, its_length k d urn e)

  pub free_inside : get_or urn 1 0 * (2 + k * d) + (2 + k * d) ≤ length urn
  unfolding slot_bytes
  free_inside = omega (arith, slot_within (get_or urn 1 0) (slot_count (k * d) (length urn)) (k * d) free_below, (its_table k d urn w e).size)

  -- the slots after the stores are the layout of the new chains
  laid : (j : ℕ) (x : List ℕ) →
      set (set (urn_slots k d urn) (get_or urn 1 0)
      (record { next = first_entry (ballot_chain (urn_slots k d urn)); juror = j; ballot = x })) 0
      (record {
        next = get_or urn 1 0;
        juror = (slot_at (urn_slots k d urn) (get_or urn 1 0)).next;
        ballot =
            (slot_at (urn_slots k d urn) 0).ballot;
      })
      ≡ with_ballot (k * d) (urn_slots k d urn) j x
  unfolding with_ballot
  laid j x =
      let R = urn_slots k d urn in
      let i = first_free (free_chain R) in
      let cut = not_empty (free_chain R) ne in
      ap (λ (m : ℕ). set (set R m (record { next = first_entry (ballot_chain R); juror = j; ballot = x })) 0
      (record { next = m; juror = (slot_at R m).next; ballot = (slot_at R 0).ballot })) free_named
      ∙ admit_slots (length R) (k * d) R (ballot_chain R) i (drop 1 (free_chain R)) j x refl
      (subst (λ (is : List ℕ). Fit (length R) (ballot_chain R) is) cut (fits k d (k * d) R many (its_parts k d urn e) sized))
      (head_is k d (k * d) R many (its_parts k d urn e) sized ∙ ap (head_slot (k * d) (ballot_chain R)) cut)
      (held k d (k * d) R many (its_parts k d urn e) sized)
      (subst (λ (is : List ℕ). FreeLinked (k * d) R is) cut (held_free k d (k * d) R many (its_parts k d urn e) sized))
      _ refl

  pub admit_bytes : (j : ℕ) (x last : List ℕ) → length x ≡ k * d →
      last ≡ take (get_or urn 1 0 * (2 + k * d)) urn ++ (get_or urn 0 0 ∷ j ∷ x) ++ drop (get_or urn 1 0 * (2 + k * d) + 2 + length x) urn →
      set (set last 0 (get_or urn 1 0)) 1 (get_or urn (get_or urn 1 0 * (2 + k * d)) 0) ≡ bytes_of (with_ballot (k * d) (urn_slots k d urn) j x)
  unfolding urn_slots slot_bytes slot_of
  admit_bytes j x last lx q =
      let m = slot_count (k * d) (length urn) in
      let R = slots_of (k * d) m urn in
      let t = its_table k d urn w e in
      let i = get_or urn 1 0 in
      let at = i * (2 + k * d) in
      let bytes = get_or urn 0 0 ∷ j ∷ x in
      let e₁ : last ≡ take at urn ++ bytes ++ drop (at + (2 + k * d)) urn = q
      ∙ ap (λ (p : ℕ). take at urn ++ bytes ++ drop p urn) {x = at + 2 + length x} {y = at + (2 + k * d)}
      (omega arith) in
      let l₁ : length last ≡ m * (2 + k * d) = ap length e₁ ∙ splice_length urn bytes at (2 + k * d) free_inside (omega arith) ∙ t.size in
      let new : Slot = record { next = get_or urn 0 0; juror = j; ballot = x } in
      let s₁ : slots_of (k * d) m last ≡ set R i new = ap (slots_of (k * d) m) e₁
      ∙ put_slots i (k * d) m urn bytes t.size free_below (omega arith) in
      let u₃ = set (set last 0 i) 1 (get_or urn at 0) in
      let l₃ : length u₃ ≡ m * (2 + k * d) = length-set (set last 0 i) 1 (get_or urn at 0) ∙ length-set last 0 i ∙ l₁ in
      let keep : slot_at (slots_of (k * d) m last) 0 ≡ slot_at R 0 = ap (λ (ss : List Slot). slot_at ss 0) s₁
      ∙ at_other R i 0 new (λ z. omega (arith, positive (length (slots_of (k * d) m urn)) i free_in)) in
      let s₃ : slots_of (k * d) m u₃ ≡ set
      (set R i (record { next = first_entry (ballot_chain R); juror = j; ballot = x })) 0
      (record { next = i; juror = (slot_at R i).next; ballot = (slot_at R 0).ballot }) =
      head_set (k * d) m last i (get_or urn at 0) l₁ (omega (arith, t.least))
      ∙ ap (λ (s : Slot). set (slots_of (k * d) m last) 0 (record { next = i; juror = get_or urn at 0; ballot = s.ballot })) keep
      ∙ ap (λ (p : ℕ). set (slots_of (k * d) m last) 0 (record { next = i; juror = p; ballot = (slot_at R 0).ballot }))
      (sym (next_is (k * d) m urn i free_below))
      ∙ ap (λ (ss : List Slot). set ss 0 (record { next = i; juror = (slot_at R i).next; ballot = (slot_at R 0).ballot })) s₁
      ∙ ap (λ (p : ℕ). set (set R i (record { next = p; juror = j; ballot = x })) 0
      (record { next = i; juror = (slot_at R i).next; ballot = (slot_at R 0).ballot })) first_named in
      sym (bytes_back (k * d) m u₃ l₃) ∙ ap bytes_of (s₃ ∙ laid j x)

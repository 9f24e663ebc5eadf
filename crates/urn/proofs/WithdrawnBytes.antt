-- The bytes of an urn after a withdrawal.
-- Assumes nothing.
use mathlib.Core.Path.{◌≡◌, ◌∙◌, refl, sym, ap, subst}
use mathlib.Core.Bool.{true}
use mathlib.Core.List.{List, ◌∷◌, ◌++◌}
use Prim.Native.Nat.{ℕ, zero, suc, ◌+◌, ◌*◌, ◌≤◌, ◌<◌}
use native.Mathlib.Omega.{arith}
use lib.Dec.{T}
use lib.ListN.{length, get_or, set, take, drop, replicate, length-set, length-replicate}
use Rattle.jury.specs.Shape.{graded_limits}
use Rattle.urn_chains.specs.Slots.{Slot, slot_bytes, slot_of, slots_of, bytes_of, slot_at, free_slot}
use Rattle.urn_chains.specs.Chains.{Entry, chain, ballot_chain, free_chain, first_entry, first_free, entry_slot, head_slot, layout}
use Rattle.urn_chains.specs.Sound.{jury_of_one, slot_count, urn_slots, sound}
use Rattle.urn.specs.Withdraw.{without_juror, without_ballot}
use Rattle.urn_chains.specs.inner.Position.{placed_at, position_of}
use Rattle.urn_chains.proofs.SlotLaws.{slot_within, next_is}
use Rattle.urn_chains.proofs.Linked.{Linked, FreeLinked, at_other}
use Rattle.urn_chains.proofs.Layouts.{Fit}
use Rattle.urn_chains.proofs.BytesLaws.{Sized, slots_sized, bytes_back}
use Rattle.urn.proofs.SlotBytes.{put_slots, set_next, set_head_juror}
use Rattle.urn_chains.proofs.SlotTests.{head_juror, slots_by_bytes}
use Rattle.urn_chains.proofs.SoundLayouts.{its_parts, its_length, held, held_free, head_is, head_free, fits, read_slots_are}
use Rattle.urn.proofs.FactLaws.{its_table}
use Rattle.urn.proofs.AdmittedBytes.{splice_length}
use Rattle.urn.proofs.WithdrawnSlots.{last_slot, Split, split, renext, linked_at, withdraw_slots, passed_next, passed_ballot, entry_place, entry_positive, link_place}

pub take_zeros : (b m : ℕ) → b ≤ m → take {A = ℕ} b (replicate m 0) ≡ replicate b 0
take_zeros zero m h = refl
take_zeros (suc b) zero h = absurd (omega arith)
take_zeros (suc b) (suc m) h = ap (λ (xs : List ℕ). 0 ∷ xs) (take_zeros b m (omega arith))

module _ (k d : ℕ) (urn : List ℕ) (w : T (graded_limits (jury_of_one k d))) (e : sound k d urn ≡ true) (j p s : ℕ)
    (found : position_of (slots_of (k * d) (slot_count (k * d) (length urn)) urn) j 0
    (chain (slot_count (k * d) (length urn)) (get_or urn 0 0)
    (slots_of (k * d) (slot_count (k * d) (length urn)) urn)) ≡ placed_at p s) where
  sized : Sized (k * d) (urn_slots k d urn)
  unfolding urn_slots
  sized = slots_sized (k * d) (slot_count (k * d) (length urn)) urn (its_table k d urn w e).size

  many : 2 ≤ length (urn_slots k d urn)
  many = omega (arith, its_length k d urn e, (its_table k d urn w e).least)

  cut : Split j 0 p s (ballot_chain (urn_slots k d urn))
  unfolding urn_slots
  cut =
      let R = slots_of (k * d) (slot_count (k * d) (length urn)) urn in
      split R j 0 p s (ballot_chain R) (held k d (k * d) (urn_slots k d urn) many (its_parts k d urn e) sized)
      (ap (position_of R j 0) (read_slots_are k d (k * d) (urn_slots k d urn) many (its_parts k d urn e) sized
      ∙ slots_by_bytes (k * d) (slot_count (k * d) (length urn)) urn (its_table k d urn w e)) ∙ found)

  fit : Fit (slot_count (k * d) (length urn)) (cut.front ++ (cut.entry ∷ cut.back)) (free_chain (urn_slots k d urn))
  fit = subst (λ (m : ℕ). Fit m (cut.front ++ (cut.entry ∷ cut.back)) (free_chain (urn_slots k d urn)))
      (its_length k d urn e)
      (subst (λ (es : List Entry). Fit (length (urn_slots k d urn)) es (free_chain (urn_slots k d urn))) cut.whole
      (fits k d (k * d) (urn_slots k d urn) many (its_parts k d urn e) sized))

  head : slot_at (urn_slots k d urn) 0 ≡ head_slot (k * d) (cut.front ++ (cut.entry ∷ cut.back)) (free_chain (urn_slots k d urn))
  head = head_is k d (k * d) (urn_slots k d urn) many (its_parts k d urn e) sized
      ∙ ap (λ (es : List Entry). head_slot (k * d) es (free_chain (urn_slots k d urn))) cut.whole

  chained : Linked (urn_slots k d urn) (cut.front ++ (cut.entry ∷ cut.back))
  chained = subst (λ (es : List Entry). Linked (urn_slots k d urn) es) cut.whole
      (held k d (k * d) (urn_slots k d urn) many (its_parts k d urn e) sized)

  free : FreeLinked (k * d) (urn_slots k d urn) (free_chain (urn_slots k d urn))
  free = held_free k d (k * d) (urn_slots k d urn) many (its_parts k d urn e) sized

  pub slot_below : s < slot_count (k * d) (length urn)
  slot_below = omega (
    arith,
    cut.slot,
    entry_place (slot_count (k * d) (length urn)) (k * d) (urn_slots k d urn) cut.front cut.entry cut.back
        (free_chain (urn_slots k d urn)) (its_length k d urn e) fit head chained free,
  )

  slot_positive : 0 < s
  slot_positive = omega (
    arith,
    cut.slot,
    entry_positive (slot_count (k * d) (length urn)) (k * d) (urn_slots k d urn) cut.front cut.entry
        cut.back (free_chain (urn_slots k d urn)) (its_length k d urn e) fit head chained free,
  )

  pub link_below : p < slot_count (k * d) (length urn)
  link_below = omega (
    arith,
    cut.link,
    link_place (slot_count (k * d) (length urn)) (k * d) (urn_slots k d urn) cut.front cut.entry cut.back
        (free_chain (urn_slots k d urn)) (its_length k d urn e) fit head chained free,
  )

  pub slot_inside : s * (2 + k * d) + (2 + k * d) ≤ length urn
  unfolding slot_bytes
  slot_inside = omega (arith, slot_within s (slot_count (k * d) (length urn)) (k * d) slot_below, (its_table k d urn w e).size)

  pub link_inside : p * (2 + k * d) + (2 + k * d) ≤ length urn
  unfolding slot_bytes
  link_inside = omega (arith, slot_within p (slot_count (k * d) (length urn)) (k * d) link_below, (its_table k d urn w e).size)

  -- the slots after the stores are the layout of the new chains
  laid : set (set (set (urn_slots k d urn) p (renext (slot_at (urn_slots k d urn) p) (first_entry cut.back))) s
      (free_slot (k * d) (first_free (free_chain (urn_slots k d urn))))) 0
      (record { next = first_entry (cut.front ++ cut.back); juror = s; ballot = replicate (k * d) 0 })
      ≡ without_ballot (k * d) (urn_slots k d urn) j
  unfolding without_ballot
  laid =
      let R = urn_slots k d urn in
      let is = free_chain R in
      let m = slot_count (k * d) (length urn) in
      ap (λ (x : ℕ). set (set (set R x (renext (slot_at R x) (first_entry cut.back))) s
      (free_slot (k * d) (first_free is))) 0
      (record { next = first_entry (cut.front ++ cut.back); juror = s; ballot = replicate (k * d) 0 })) cut.link
      ∙ ap (λ (x : ℕ). set
      (set (set R (last_slot 0 cut.front)
      (renext (slot_at R (last_slot 0 cut.front)) (first_entry cut.back))) x
      (free_slot (k * d) (first_free is))) 0
      (record { next = first_entry (cut.front ++ cut.back); juror = x; ballot = replicate (k * d) 0 })) cut.slot
      ∙ withdraw_slots m (k * d) R cut.front cut.entry cut.back is (its_length k d urn e) fit head chained free
      ∙ ap (λ (x : ℕ). layout x (k * d) (cut.front ++ cut.back) (cut.entry.slot ∷ is)) (sym (its_length k d urn e))
      ∙ ap (λ (es : List Entry). layout (length R) (k * d) es (cut.entry.slot ∷ is)) (sym cut.gone)
      ∙ ap (λ (x : ℕ). layout (length R) (k * d) (without_juror j (ballot_chain R)) (x ∷ is)) (sym cut.named)

  pub withdraw_bytes : (zs last : List ℕ) → zs ≡ replicate (k * d) 0 →
      last ≡ take (s * (2 + k * d)) (set urn (p * (2 + k * d)) (get_or urn (s * (2 + k * d)) 0))
      ++ (get_or urn 1 0 ∷ 0 ∷ zs) ++ drop (s * (2 + k * d) + 2 + length zs)
      (set urn (p * (2 + k * d)) (get_or urn (s * (2 + k * d)) 0)) →
      set last 1 s ≡ bytes_of (without_ballot (k * d) (urn_slots k d urn) j)
  unfolding urn_slots slot_bytes slot_of free_slot entry_slot
  withdraw_bytes zs last ez q =
      let b = k * d in
      let m = slot_count b (length urn) in
      let R = slots_of b m urn in
      let t = its_table k d urn w e in
      let z = 2 + b in
      let v = get_or urn (s * z) 0 in
      let u = set urn (p * z) v in
      let lu : length u ≡ m * z = length-set urn (p * z) v ∙ t.size in
      let lz : length zs ≡ b = ap length ez ∙ length-replicate b 0 in
      let bytes = get_or urn 1 0 ∷ 0 ∷ zs in
      let next : v ≡ first_entry cut.back = sym (next_is b m urn s slot_below)
      ∙ ap (λ (x : ℕ). (slot_at R x).next) cut.slot
      ∙ ap (λ (x : Slot). x.next) (linked_at R cut.front cut.entry cut.back chained) in
      let s₁ : slots_of b m u ≡ set R p (renext (slot_at R p) (first_entry cut.back)) =
      set_next p b m urn v t.size link_below ∙ ap (λ (x : ℕ). set R p (renext (slot_at R p) x)) next in
      let e₁ : last ≡ take (s * z) u ++ bytes ++ drop (s * z + z) u = q
      ∙ ap (λ (x : ℕ). take (s * z) u ++ bytes ++ drop x u) {x = s * z + 2 + length zs} {y = s * z + z}
      (omega arith) in
      let l₁ : length last ≡ m * z = ap length e₁ ∙ splice_length u bytes (s * z) z (omega (arith, slot_inside)) (omega arith) ∙ lu in
      let F = free_slot b (first_free (free_chain R)) in
      let named : get_or urn 1 0 ≡ first_free (free_chain R) = sym (head_juror b m urn t)
      ∙ head_free k d b R many (its_parts k d urn e) sized in
      let blank : slot_of bytes ≡ F = ap (λ (x : ℕ). record { next = x; juror = 0; ballot = zs }) named
      ∙ ap (λ (xs : List ℕ). record { next = first_free (free_chain R); juror = 0; ballot = xs }) ez in
      let s₂ : slots_of b m last ≡ set (set R p (renext (slot_at R p) (first_entry cut.back))) s F =
      ap (slots_of b m) e₁ ∙ put_slots s b m u bytes lu slot_below (omega arith)
      ∙ ap (λ (x : Slot). set (slots_of b m u) s x) blank ∙ ap (λ (xs : List Slot). set xs s F) s₁ in
      let R₁ = set R p (renext (slot_at R p) (first_entry cut.back)) in
      let top : slot_at (slots_of b m last) 0 ≡ slot_at R₁ 0 = ap (λ (xs : List Slot). slot_at xs 0) s₂
      ∙ at_other R₁ s 0 F (λ x. omega (arith, slot_positive)) in
      let here = ap (λ (x : ℕ). slot_at (set R x (renext (slot_at R x) (first_entry cut.back))) 0) cut.link in
      let n₁ : (slot_at R₁ 0).next ≡ first_entry (cut.front ++ cut.back) = ap (λ (x : Slot). x.next) here
      ∙ passed_next m b R cut.front cut.entry cut.back (free_chain R) (its_length k d urn e) fit head
      chained free in
      let b₁ : (slot_at R₁ 0).ballot ≡ replicate b 0 = ap (λ (x : Slot). x.ballot) here
      ∙ passed_ballot m b R cut.front cut.entry cut.back (free_chain R) (its_length k d urn e) fit head
      chained free in
      let s₃ : slots_of b m (set last 1 s)
      ≡ set (set R₁ s F) 0 (record {
        next = first_entry (cut.front ++ cut.back);
        juror = s;
        ballot =
            replicate b 0;
      }) =
      set_head_juror b m last s l₁ (omega (arith, t.least))
      ∙ ap (λ (x : Slot). set (slots_of b m last) 0 (record { next = x.next; juror = s; ballot = x.ballot })) top
      ∙ ap (λ (x : ℕ). set (slots_of b m last) 0 (record { next = x; juror = s; ballot = (slot_at R₁ 0).ballot })) n₁
      ∙ ap (λ (xs : List ℕ). set (slots_of b m last) 0 (record { next = first_entry (cut.front ++ cut.back); juror = s; ballot = xs })) b₁
      ∙ ap (λ (xs : List Slot). set xs 0 (record { next = first_entry (cut.front ++ cut.back); juror = s; ballot = replicate b 0 })) s₂ in
      sym (bytes_back b m (set last 1 s) (length-set last 1 s ∙ l₁)) ∙ ap bytes_of (s₃ ∙ laid)

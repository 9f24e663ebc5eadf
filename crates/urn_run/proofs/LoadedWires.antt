-- The ballots of a chain written into a table, one slot at a time.
-- Assumes nothing.
use mathlib.Core.Path.{◌≡◌, ◌∙◌, refl, sym, ap, subst}
use mathlib.Core.Logic.{◌⊎◌, inl, inr}
use mathlib.Core.Bool.{true, false}
use mathlib.Core.List.{List, [], ◌∷◌, ◌++◌, map, append_assoc}
use Prim.Native.Nat.{ℕ, ◌+◌, ◌*◌, ◌-◌, ◌≤◌, ◌<◌}
use native.Mathlib.Nat.{zero-mul, sub-zero, add-mul, one-mul}
use native.Mathlib.Omega.{arith}
use lib.Dec.{T}
use lib.ListN.{length, get_or, take, drop, length-append, length-take, length-drop}
use lib.Seq.{sets, sets-eq, length-sets, drop-drop}
use Rattle.jury.specs.Shape.{graded_limits}
use Rattle.basics.proofs.Cases.{below_or_not}
use Rattle.urn_chains.specs.Slots.{Slot, slot_bytes, slots_of, slot_at}
use Rattle.urn_chains.specs.Chains.{chain, ends, entry_at, ballot_chain}
use Rattle.basics.specs.Lists.{all}
use Rattle.urn_chains.specs.Sound.{in_urn, jury_of_one, slot_count, urn_slots, sound}
use Rattle.urn_chains.proofs.Lists.{all_first, all_rest}
use Rattle.urn_chains.proofs.Linked.{below}
use Rattle.urn_chains.proofs.Walks.{chain_step, chain_end, ends_step, ends_never}
use Rattle.urn_chains.proofs.SlotLaws.{slot_within, ballot_is, next_is}
use Rattle.urn_chains.proofs.SlotTests.{head_next, slots_by_bytes, clash}
use Rattle.urn_chains.proofs.SoundLayouts.{its_parts, its_length}
use Rattle.urn.proofs.FactLaws.{its_table, can_find}
use Rattle.urn_run.specs.Run.{joined_ballots, chain_ballots}
use Rattle.basics.proofs.Tables.{sets_append}

-- a copy into a part of a table writes what is copied there
copied : (src ws last : List ℕ) (at m : ℕ) → at + length src ≤ length ws → m ≡ length src → last ≡ src
    → take at ws ++ (last ++ drop m (drop at ws)) ≡ sets ws at src
copied src ws last at m h n e =
    ap (λ (l : List ℕ). take at ws ++ (l ++ drop m (drop at ws))) e
    ∙ ap (λ (j : ℕ). take at ws ++ (src ++ drop j (drop at ws))) n
    ∙ ap (λ (l : List ℕ). take at ws ++ (src ++ l)) (drop-drop (length src) at ws)
    ∙ sym (append_assoc (take at ws) src (drop (at + length src) ws))
    ∙ sym (sets-eq src ws at h)

-- the ballots in these slots
abbrev pub along : List Slot → List ℕ → List ℕ
along S is = joined_ballots (map (entry_at S) is)

pub along_step : (S : List Slot) (i : ℕ) (is : List ℕ) → along S (i ∷ is) ≡ (slot_at S i).ballot ++ along S is
unfolding joined_ballots entry_at
along_step S i is = refl

-- The wire table after `count` ballots, with `slot` as the next slot: writing the rest after them gives the table
-- that writing all from the start gives.
pub record OnLoad (S : List Slot) (n b size : ℕ) (final ws : List ℕ) (count slot : ℕ) : Type 0 where
  pub within : count ≤ n
  pub goes : ends (n - count) slot S ≡ true
  pub inside : all (in_urn n) (chain (n - count) slot S) ≡ true
  pub left : sets ws (count * b) (along S (chain (n - count) slot S)) ≡ final
  pub room : count * b + length (along S (chain (n - count) slot S)) ≤ length ws
  pub kept : length ws ≡ size

pub load_start : (S : List Slot) (n b first slot : ℕ) (ws : List ℕ) → slot ≡ first → ends n first S ≡ true
    → all (in_urn n) (chain n first S) ≡ true
    → length (along S (chain n first S)) ≤ length ws → OnLoad S n b (length ws) (sets ws 0 (along S (chain n first S))) ws 0 slot
load_start S n b first slot ws e g i r =
    subst (λ (j : ℕ). OnLoad S n b (length ws) (sets ws 0 (along S (chain n first S))) ws 0 j) (sym e)
    (record {
      within = omega arith;
      goes = ap (λ (m : ℕ). ends m first S) (sub-zero n) ∙ g;
      inside = ap (λ (m : ℕ). all (in_urn n) (chain m first S)) (sub-zero n) ∙ i;
      left = ap (λ (m : ℕ). sets ws m (along S (chain (n - 0) first S))) (zero-mul b)
          ∙ ap (λ (m : ℕ). sets ws 0 (along S (chain m first S))) (sub-zero n);
      room = omega (arith, zero-mul b, ap (λ (m : ℕ). length (along S (chain m first S))) (sub-zero n));
      kept = refl;
    })

module _ (S : List Slot) (n b size : ℕ) (final ws : List ℕ) (count slot : ℕ) (on : OnLoad S n b size final ws count slot) where
  module _ (p : 0 < slot) where
    -- if the chain goes on, not all slots were met
    pub more : count < n
    more =
        let t : ends 0 slot S ≡ false = ends_never slot S p in
        not_all (below_or_not count n) t
      where
        not_all : (count < n) ⊎ (n ≤ count) → ends 0 slot S ≡ false → count < n
        not_all (inl l) t = l
        not_all (inr l) t = absurd (clash (ends 0 slot S)
            (ap (λ (m : ℕ). ends m slot S) {x = 0} {y = n - count} (omega (arith, on.within)) ∙ on.goes) t)

    pub here : chain (n - count) slot S ≡ slot ∷ chain (n - (count + 1)) (slot_at S slot).next S
    here =
        chain_step (n - count) slot S (omega (arith, more)) p
        ∙ ap (λ (m : ℕ). slot ∷ chain m (slot_at S slot).next S) {x = n - count - 1} {y = n - (count + 1)} (omega arith)

    pub slot_below : slot < n
    slot_below = below n slot (all_first (in_urn n) slot (chain (n - (count + 1)) (slot_at S slot).next S)
        (ap (all (in_urn n)) (sym here) ∙ on.inside))

    all_here : along S (chain (n - count) slot S) ≡ (slot_at S slot).ballot ++ along S (chain (n - (count + 1)) (slot_at S slot).next S)
    all_here = ap (along S) here ∙ along_step S slot (chain (n - (count + 1)) (slot_at S slot).next S)

    -- the next ballot has room
    pub fits : length (slot_at S slot).ballot ≡ b → count * b + b ≤ length ws
    fits e = omega (
      arith,
      on.room,
      ap length all_here,
      length-append (slot_at S slot).ballot (along S (chain (n - (count + 1)) (slot_at S slot).next S)),
    )

    pub load_go : (ws' : List ℕ) (j : ℕ) → length (slot_at S slot).ballot ≡ b → ws'
        ≡ sets ws (count * b) (slot_at S slot).ballot → j ≡ (slot_at S slot).next
        → OnLoad S n b size final ws' (count + 1) j
    load_go ws' j e q f =
        let x = (slot_at S slot).ballot in
        let ys = along S (chain (n - (count + 1)) (slot_at S slot).next S) in
        let to : (count + 1) * b ≡ count * b + b = omega (arith, add-mul count 1 b, one-mul b) in
        subst (λ (i : ℕ). OnLoad S n b size final ws' (count + 1) i) (sym f)
        (record {
          within = omega (arith, more);
          goes =
              ap (λ (m : ℕ). ends m (slot_at S slot).next S) {x = n - (count + 1)} {y = n - count - 1} (omega arith)
              ∙ sym (ends_step (n - count) slot S (omega (arith, more)) p)
              ∙ on.goes;
          inside = all_rest (in_urn n) slot (chain (n - (count + 1)) (slot_at S slot).next S) (ap (all (in_urn n)) (sym here) ∙ on.inside);
          left =
              ap (λ (l : List ℕ). sets l ((count + 1) * b) ys) q
              ∙ sets_append x ys ws (count * b) ((count + 1) * b) (omega (arith, e))
              ∙ ap (sets ws (count * b)) (sym all_here)
              ∙ on.left;
          room = omega (arith, on.room, ap length all_here, length-append x ys, ap length q, length-sets ws (count * b) x);
          kept = ap length q ∙ length-sets ws (count * b) x ∙ on.kept;
        })

  pub load_end : slot ≡ 0 → ws ≡ final
  unfolding joined_ballots
  load_end e =
      let none : chain (n - count) slot S ≡ [] = ap (λ (i : ℕ). chain (n - count) i S) e ∙ chain_end (n - count) S in
      sym (ap (λ (is : List ℕ). sets ws (count * b) (along S is)) none) ∙ on.left

-- facts about a sound urn, from its bytes
module _ (k d : ℕ) (urn : List ℕ) (w : T (graded_limits (jury_of_one k d))) (e : sound k d urn ≡ true) where
  pub its_end : ends (slot_count (k * d) (length urn)) (get_or urn 0 0) (slots_of (k * d) (slot_count (k * d) (length urn)) urn) ≡ true
  unfolding urn_slots
  its_end =
      let n = slot_count (k * d) (length urn) in
      let S = slots_of (k * d) n urn in
      ap (λ (i : ℕ). ends n i S) (sym (head_next (k * d) n urn (its_table k d urn w e)))
      ∙ ap (λ (m : ℕ). ends m (slot_at S 0).next S) (sym (its_length k d urn e))
      ∙ (its_parts k d urn e).ballots_end

  pub its_ballots : chain_ballots k d urn
      ≡ along (slots_of (k * d) (slot_count (k * d) (length urn)) urn)
      (chain (slot_count (k * d) (length urn)) (get_or urn 0 0) (slots_of (k * d) (slot_count (k * d) (length urn)) urn))
  unfolding chain_ballots ballot_chain urn_slots
  its_ballots =
      let n = slot_count (k * d) (length urn) in
      ap (along (slots_of (k * d) n urn)) (slots_by_bytes (k * d) n urn (its_table k d urn w e))

  -- a slot's ballot has k times d bytes
  pub ballot_size : (i : ℕ) → i < slot_count (k * d) (length urn)
      → length (slot_at (slots_of (k * d) (slot_count (k * d) (length urn)) urn) i).ballot ≡ k * d
  unfolding slot_bytes
  ballot_size i h =
      let n = slot_count (k * d) (length urn) in
      let t = its_table k d urn w e in
      omega (
        arith,
        ap length (ballot_is (k * d) n urn i h t.size),
        length-take (k * d) (drop (i * (2 + k * d) + 2) urn),
        length-drop (i * (2 + k * d) + 2) urn,
        slot_within i n (k * d) h,
        t.size,
      )

  -- in the end the table begins with the ballots, and is unchanged after them
  pub loaded : (ws last : List ℕ) → length (chain_ballots k d urn) ≤ length ws
      → last ≡ sets ws 0 (along (slots_of (k * d) (slot_count (k * d) (length urn)) urn)
      (chain (slot_count (k * d) (length urn)) (get_or urn 0 0) (slots_of (k * d) (slot_count (k * d) (length urn)) urn)))
      → last ≡ chain_ballots k d urn ++ drop (length (chain_ballots k d urn)) ws
  loaded ws last r q =
      q ∙ ap (sets ws 0) (sym its_ballots) ∙ sets-eq (chain_ballots k d urn) ws 0 (omega arith)
      ∙ ap (λ (m : ℕ). chain_ballots k d urn ++ drop m ws) {x = 0 + length (chain_ballots k d urn)}
      {y = length (chain_ballots k d urn)} (omega arith)

  pub load_begin : (ws : List ℕ) (slot : ℕ) → length (chain_ballots k d urn) ≤ length ws → slot ≡ get_or urn 0 0
      → OnLoad (slots_of (k * d) (slot_count (k * d) (length urn)) urn) (slot_count (k * d) (length urn)) (k * d) (length ws)
      (sets ws 0 (along (slots_of (k * d) (slot_count (k * d) (length urn)) urn)
      (chain (slot_count (k * d) (length urn)) (get_or urn 0 0)
      (slots_of (k * d) (slot_count (k * d) (length urn)) urn)))) ws 0 slot
  load_begin ws slot r q =
      let n = slot_count (k * d) (length urn) in
      load_start (slots_of (k * d) n urn) n (k * d) (get_or urn 0 0) slot ws q its_end (can_find k d urn w e)
      (omega (arith, ap length its_ballots))

  -- one turn reads inside the urn and writes inside the table
  module _ (size : ℕ) (final ws : List ℕ) (count slot : ℕ)
      (on : OnLoad (slots_of (k * d) (slot_count (k * d) (length urn)) urn) (slot_count (k * d) (length urn)) (k * d)
      size final ws count slot) (p : 0 < slot) where
    turn_below : slot < slot_count (k * d) (length urn)
    turn_below = let n = slot_count (k * d) (length urn) in slot_below (slots_of (k * d) n urn) n (k * d) size final ws count slot on p

    pub turn_more : count < slot_count (k * d) (length urn)
    turn_more = let n = slot_count (k * d) (length urn) in more (slots_of (k * d) n urn) n (k * d) size final ws count slot on p

    pub turn_inside : slot * (2 + k * d) + (2 + k * d) ≤ length urn
    unfolding slot_bytes
    turn_inside =
        let n = slot_count (k * d) (length urn) in
        let t : length urn ≡ n * (2 + k * d) = (its_table k d urn w e).size in
        let l : slot * (2 + k * d) + (2 + k * d) ≤ n * (2 + k * d) = slot_within slot n (k * d) turn_below in
        omega arith

    pub turn_room : count * (k * d) + k * d ≤ length ws
    turn_room = let n = slot_count (k * d) (length urn) in
        fits (slots_of (k * d) n urn) n (k * d) size final ws count slot on p (ballot_size slot turn_below)

    -- the bytes that are copied
    abbrev pub source : List ℕ
    source = take (slot * (2 + k * d) + (2 + k * d) - (slot * (2 + k * d) + 2)) (drop (slot * (2 + k * d) + 2) urn)

    source_is : source ≡ (slot_at (slots_of (k * d) (slot_count (k * d) (length urn)) urn) slot).ballot
    unfolding slot_bytes
    source_is =
        let n = slot_count (k * d) (length urn) in
        ap (λ (m : ℕ). take m (drop (slot * (2 + k * d) + 2) urn))
        {x = slot * (2 + k * d) + (2 + k * d) - (slot * (2 + k * d) + 2)} {y = k * d} (omega arith)
        ∙ sym (ballot_is (k * d) n urn slot turn_below (its_table k d urn w e).size)

    pub source_length : length source ≡ k * d
    source_length = ap length source_is ∙ ballot_size slot turn_below

    pub turn_on : (last : List ℕ) (next : ℕ) → last ≡ source → next ≡ get_or urn (slot * (2 + k * d)) 0
        → OnLoad (slots_of (k * d) (slot_count (k * d) (length urn)) urn) (slot_count (k * d) (length urn)) (k * d) size final
        (take (count * (k * d)) ws ++ (last ++ drop (count * (k * d) + k * d - count * (k * d)) (drop (count * (k * d)) ws)))
        (count + 1) next
    unfolding slot_bytes
    turn_on last next q f =
        let n = slot_count (k * d) (length urn) in
        let S = slots_of (k * d) n urn in
        load_go S n (k * d) size final ws count slot on p _ next (ballot_size slot turn_below)
        (copied source ws last (count * (k * d)) _ (omega (arith, source_length, turn_room)) (omega (arith, source_length)) q
        ∙ ap (sets ws (count * (k * d))) source_is)
        (f ∙ sym (next_is (k * d) n urn slot turn_below))

-- Sound urns are exactly the layouts of good chains.
-- Assumes nothing.
use mathlib.Core.Path.{◌≡◌, ◌∙◌, refl, sym, ap, subst}
use mathlib.Core.Bool.{true, ◌&&◌}
use mathlib.Core.List.{List, ◌++◌, map}
use Prim.Native.Nat.{ℕ, suc, ◌*◌, ◌-◌, ◌≤◌}
use native.Mathlib.Omega.{arith}
use lib.Dec.{eqb}
use lib.ListN.{length, replicate}
use borrow.Author.Tests.{eqb-true}
use Rattle.basics.specs.Lists.{tabulate}
use Rattle.basics.proofs.Flags.{and_first, and_second, and_both}
use Rattle.urn_chains.specs.Slots.{Slot, slot_bytes, slots_of, bytes_of, slot_at, free_slot}
use Rattle.urn_chains.specs.Chains.{Entry, ballot_slots, ballot_chain, free_chain, first_entry, first_free, head_slot, layout}
use Rattle.basics.specs.Lists.{all, member, distinct}
use Rattle.urn_chains.specs.Sound.{good_juror, good_ballot, in_urn, each_once, good_chains, all_zero, empty_slot, sound_slots, slot_count, urn_length, urn_slots, sound, entries_of, free_of}
use Rattle.urn_chains.specs.Theorems.{LaidOut, SoundIsLaidOut}
use Rattle.urn_chains.proofs.Zeros.{zero_zeros}
use Rattle.urn_chains.proofs.Lists.{all_member, all_append}
use Rattle.urn_chains.proofs.SlotLaws.{slots_length}
use Rattle.urn_chains.proofs.SoundLaws.{Parts, slots_of_entries, sound_parts, chains_true}
use Rattle.urn_chains.proofs.Linked.{slots_in, Linked, FreeLinked, below, first_read, chain_linked, free_first, chain_free}
use Rattle.urn_chains.proofs.Layouts.{Fit, chains_fit, layout_unique, layout_length, layout_sound, read_ballots, read_free}
use Rattle.urn_chains.proofs.BytesLaws.{Sized, sized_at, slots_sized, layout_sized, bytes_length, slots_back, bytes_back, count_is, length_good, table_is, count_least, count_most}

module _ (k d b : ℕ) (S : List Slot) (least : 2 ≤ length S) (p : Parts k d S) (z : Sized b S) where
  pub held : Linked S (ballot_chain S)
  unfolding ballot_chain ballot_slots
  held = chain_linked (length S) (slot_at S 0).next S p.ballots_end

  -- a free slot holds only the index of the next slot
  free_slot_lem : (i : ℕ) → member i (free_chain S) ≡ true → slot_at S i ≡ free_slot b (slot_at S i).next
  unfolding empty_slot free_slot
  free_slot_lem i m =
      let e = all_member (λ j. empty_slot (slot_at S j)) i (free_chain S) p.empty m in
      let j = eqb-true (slot_at S i).juror 0 (and_first (eqb (slot_at S i).juror 0) (all_zero (slot_at S i).ballot) e) in
      let l = below (length S) i (all_member (in_urn (length S)) i (free_chain S)
      (and_second (all (in_urn (length S)) (ballot_slots S)) (all (in_urn (length S)) (free_chain S))
      (sym (all_append (in_urn (length S)) (ballot_slots S) (free_chain S)) ∙ p.inside)) m) in
      let x = zero_zeros (slot_at S i).ballot
      (and_second (eqb (slot_at S i).juror 0) (all_zero (slot_at S i).ballot) e)
      ∙ ap (λ (n : ℕ). replicate n 0) (sized_at b S i l z) in
      ap (λ (n : ℕ). record { next = (slot_at S i).next; juror = n; ballot = (slot_at S i).ballot }) j
      ∙ ap (λ (xs : List ℕ). record { next = (slot_at S i).next; juror = 0; ballot = xs }) x

  pub held_free : FreeLinked b S (free_chain S)
  unfolding free_chain
  held_free = chain_free b (length S) (slot_at S 0).juror S p.free_end free_slot_lem

  pub head_zero : (slot_at S 0).ballot ≡ replicate b 0
  head_zero = zero_zeros (slot_at S 0).ballot p.head ∙ ap (λ (n : ℕ). replicate n 0) (sized_at b S 0 (omega arith) z)

  pub head_first : (slot_at S 0).next ≡ first_entry (ballot_chain S)
  unfolding ballot_chain ballot_slots
  head_first = sym (first_read (length S) (slot_at S 0).next S p.ballots_end)

  pub head_free : (slot_at S 0).juror ≡ first_free (free_chain S)
  unfolding free_chain
  head_free = sym (free_first (length S) (slot_at S 0).juror S p.free_end)

  pub head_is : slot_at S 0 ≡ head_slot b (ballot_chain S) (free_chain S)
  unfolding head_slot
  head_is =
      ap (λ (n : ℕ). record { next = n; juror = (slot_at S 0).juror; ballot = (slot_at S 0).ballot }) head_first
      ∙ ap (λ (n : ℕ). record { next = first_entry (ballot_chain S); juror = n; ballot = (slot_at S 0).ballot }) head_free
      ∙ ap (λ (xs : List ℕ). record { next = first_entry (ballot_chain S); juror = first_free (free_chain S); ballot = xs }) head_zero

  pub read_slots_are : slots_in (ballot_chain S) ≡ ballot_slots S
  unfolding ballot_chain
  read_slots_are = slots_of_entries S (ballot_slots S)

  pub fits : Fit (length S) (ballot_chain S) (free_chain S)
  fits =
      let q = sym read_slots_are in
      record {
        least = least;
        inside = ap (λ (is : List ℕ). all (in_urn (length S)) (is ++ free_chain S)) read_slots_are ∙ p.inside;
        once = ap (λ (is : List ℕ). distinct (is ++ free_chain S)) read_slots_are ∙ p.once;
        covered = ap (λ (is : List ℕ). all (λ i. member i (is ++ free_chain S)) (tabulate (length S - 1) suc)) read_slots_are ∙ p.covered;
      }

  -- a sound urn is the layout of the chains that are read from it
  pub sound_layout : S ≡ layout (length S) b (ballot_chain S) (free_chain S)
  sound_layout = layout_unique (length S) b (ballot_chain S) (free_chain S) fits S refl head_is held held_free

-- Good chains, as facts.
pub record Good (k d n : ℕ) (es : List Entry) (is : List ℕ) : Type 0 where
  pub fit : Fit n es is
  pub jurors : all (λ (e : Entry). good_juror e.juror) es ≡ true
  pub jurors_once : distinct (map (λ (e : Entry). e.juror) es) ≡ true
  pub ballots : all (λ (e : Entry). good_ballot k d e.ballot) es ≡ true

pub chains_good : (k d n : ℕ) (es : List Entry) (is : List ℕ) → 2 ≤ n → good_chains k d n es is ≡ true → Good k d n es is
unfolding good_chains
chains_good k d n es is h e =
    let o = each_once n (slots_in es ++ is) in
    let j = all (λ (x : Entry). good_juror x.juror) es in
    let u = distinct (map (λ (x : Entry). x.juror) es) in
    let v = all (λ (x : Entry). good_ballot k d x.ballot) es in
    let e₂ = and_first (o && j && u) v e in
    let e₁ = and_first (o && j) u e₂ in
    record {
      fit = chains_fit k d n es is h e;
      jurors = and_second o j e₁;
      jurors_once = and_second (o && j) u e₂;
      ballots = and_second (o && j && u) v e;
    }

pub good_chains_lem : (k d n : ℕ) (es : List Entry) (is : List ℕ) → Good k d n es is → good_chains k d n es is ≡ true
unfolding good_chains each_once
good_chains_lem k d n es is g = rw (g.fit.inside, g.fit.once, g.fit.covered, g.jurors, g.jurors_once, g.ballots)

-- An urn that is written from good chains.
pub record Written (k d n : ℕ) (es : List Entry) (is : List ℕ) (urn : List ℕ) : Type 0 where
  pub is_sound : sound k d urn ≡ true
  pub size : length urn ≡ n * slot_bytes (k * d)
  pub slots : urn_slots k d urn ≡ layout n (k * d) es is
  pub ballots : entries_of k d urn ≡ es
  pub free : free_of k d urn ≡ is

pub bytes_written : (k d n : ℕ) (es : List Entry) (is : List ℕ) → 2 ≤ n → n ≤ 256 → Good k d n es is
    → Written k d n es is (bytes_of (layout n (k * d) es is))
unfolding sound urn_slots
bytes_written k d n es is l m g =
    let b = k * d in
    let L = layout n b es is in
    let z = layout_sized k d n es is g.ballots in
    let q : length (bytes_of L) ≡ n * slot_bytes b = bytes_length b L z ∙ ap (λ (x : ℕ). x * slot_bytes b) (layout_length n b es is) in
    let c : slot_count b (length (bytes_of L)) ≡ n = count_is b n (length (bytes_of L)) q in
    let s : urn_slots k d (bytes_of L) ≡ L = ap (λ (x : ℕ). slots_of b x (bytes_of L)) (c ∙ sym (layout_length n b es is)) ∙ slots_back b L z in
    record {
      is_sound = and_both (urn_length b (length (bytes_of L))) (sound_slots k d (urn_slots k d (bytes_of L)))
          (length_good b n (length (bytes_of L)) l m q)
          (ap (sound_slots k d) s ∙ layout_sound k d n b es is l (good_chains_lem k d n es is g));
      size = q;
      slots = s;
      ballots = ap ballot_chain s ∙ read_ballots n b es is g.fit;
      free = ap free_chain s ∙ read_free n b es is g.fit;
    }

pub written : (k d n : ℕ) (es : List Entry) (is urn : List ℕ) → LaidOut k d n es is urn → Written k d n es is urn
written k d n es is urn l =
    subst (Written k d n es is) (sym l.bytes)
    (bytes_written k d n es is l.least l.most (chains_good k d n es is l.least l.good))

module _ (k d : ℕ) (urn : List ℕ) (e : sound k d urn ≡ true) where
  pub its_urn_length : urn_length (k * d) (length urn) ≡ true
  unfolding sound
  its_urn_length = and_first (urn_length (k * d) (length urn)) (sound_slots k d (urn_slots k d urn)) e

  pub its_slots_sound : sound_slots k d (urn_slots k d urn) ≡ true
  unfolding sound
  its_slots_sound = and_second (urn_length (k * d) (length urn)) (sound_slots k d (urn_slots k d urn)) e

  pub its_parts : Parts k d (urn_slots k d urn)
  its_parts = sound_parts k d (urn_slots k d urn) its_slots_sound

  pub its_length : length (urn_slots k d urn) ≡ slot_count (k * d) (length urn)
  unfolding urn_slots
  its_length = slots_length (k * d) (slot_count (k * d) (length urn)) urn

  pub its_sized : Sized (k * d) (urn_slots k d urn)
  unfolding urn_slots
  its_sized = slots_sized (k * d) (slot_count (k * d) (length urn)) urn (table_is (k * d) (length urn) its_urn_length)

  -- a sound urn is the layout of its own chains
  pub laid_out : LaidOut k d (length (urn_slots k d urn)) (entries_of k d urn) (free_of k d urn) urn
  unfolding urn_slots
  laid_out =
      let least : 2 ≤ length (urn_slots k d urn) = omega (arith, its_length, count_least (k * d) (length urn) its_urn_length) in
      record {
        least = least;
        most = omega (arith, its_length, count_most (k * d) (length urn) its_urn_length);
        good = chains_true k d (urn_slots k d urn) its_parts;
        bytes =
            sym (bytes_back (k * d) (slot_count (k * d) (length urn)) urn (table_is (k * d) (length urn) its_urn_length))
            ∙ ap bytes_of (sound_layout k d (k * d) (urn_slots k d urn) least its_parts its_sized);
      }

one_count : (k d n m : ℕ) (es fs : List Entry) (is js urn : List ℕ) → Written k d n es is urn → Written k d m fs js urn → n ≡ m
one_count k d n m es fs is js urn v w = sym (count_is (k * d) n (length urn) v.size) ∙ count_is (k * d) m (length urn) w.size

pub sound_is_laid_out : SoundIsLaidOut
sound_is_laid_out =
    record {
      exactly = λ k d urn. (
        (λ e. (length (urn_slots k d urn), entries_of k d urn, free_of k d urn, laid_out k d urn e)),
        (λ l. (written k d l.0 l.1 l.2 urn l.3).is_sound),
      );
      read_ballots = λ k d n es is urn l. (written k d n es is urn l).ballots;
      read_free = λ k d n es is urn l. (written k d n es is urn l).free;
      only = λ k d n m es fs is js urn l m'.
          let v = written k d n es is urn l in
          let w = written k d m fs js urn m' in
          (one_count k d n m es fs is js urn v w, sym v.ballots ∙ w.ballots, sym v.free ∙ w.free);
    }

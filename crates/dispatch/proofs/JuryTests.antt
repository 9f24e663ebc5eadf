-- The tests of all juries, one after another.
-- Assumes nothing.
use Rattle.std.specs.Prelude.{Ok, Err}
use mathlib.Core.Path.{◌≡◌, ◌∙◌, refl, sym, ap, subst}
use mathlib.Core.Bool.{Bool, true, false, cond}
use mathlib.Core.Option.{Option, none, some}
use mathlib.Core.List.{List, [], ◌∷◌}
use Prim.Native.Nat.{ℕ, suc, ◌+◌, ◌-◌, ◌*◌, ◌≤◌, ◌<◌}
use native.Mathlib.Numerals.{add-one}
use native.Mathlib.Omega.{arith}
use lib.Dec.{leb, T}
use lib.ListN.{length, set, take, drop, replicate, length-drop}
use lib.Seq.{take_all, drop-cons}
use borrow.Author.Tests.{leb-true}
use Rattle.gates.specs.Gate.{Gate}
use Rattle.gates.specs.Board.{conditional_count}
use Rattle.gates.proofs.Evaluating.{accepted_list}
use Rattle.jury.specs.Shape.{within_limits, ballot_bytes}
use Rattle.jury.proofs.Limits.{bounds}
use Rattle.jury.specs.Reason.{Reason, reason_at, reason_of, first_of}
use Rattle.jury.specs.declared.reason.Refusal.{Refusal}
use Rattle.gates.specs.declared.list.ListSize.{ListSize}
use Rattle.tally.specs.Answer.{accepted, outcome, Size, size_of, size_in, outcome_of}
use Rattle.tally.proofs.TestReasons.{TestPassed}
use Rattle.tally.proofs.RunReasons.{outcome_refused, outcome_accepted}
use Rattle.dispatch_rounds.specs.declared.header.JuryHeader.{JuryHeader}
use Rattle.dispatch_rounds.specs.Tables.{Tables, tables_of, header_shape, fitting, piece_of, list_of, conditional_in, pieces_of, remaining}
use Rattle.dispatch_rounds.specs.Reasons.{reasons_of, at_jury, jury_reasons}
use Rattle.dispatch_rounds.specs.declared.header.Places.{Places}
use Rattle.dispatch_rounds.specs.Rounds.{eight_of}
use Rattle.dispatch_rounds.specs.inner.State.{places_after}
use Rattle.dispatch.specs.inner.Rounds.{JuryTested, wire_bytes}
use Rattle.dispatch_rounds.proofs.Pieces.{Upto, upto_start, upto_end, one_of, upto_set, eight_zeros}
use Rattle.dispatch_rounds.proofs.Passed.{jury_passed, list_fits}
use Rattle.dispatch_rounds.proofs.MidRound.{from, from_after, Inside, inside_next, marks, padding, start}
use Rattle.dispatch_rounds.proofs.Turns.{blank, jury_of}

-- a piece is no longer than what is left
pub fitting_most : (n m : ℕ) → fitting n m ≤ m
unfolding fitting
fitting_most n m = go (leb n m) refl
  where
    go : (b : Bool) → leb n m ≡ b → cond b n 0 ≤ m
    go true e = leb-true n m e
    go false e = omega arith

-- the pieces, from the lengths that the program computes for them
module _ (s : JuryHeader) (t : Tables) where
  pub list_piece : (n : ℕ) → n ≡ fitting (4 * s.gates) (length t.lists) → take n t.lists ≡ (pieces_of s t).lists
  unfolding pieces_of list_of piece_of
  list_piece n e = ap (λ (x : ℕ). take x t.lists) e

  pub ballots_piece : (i n : ℕ) → i ≡ ballot_bytes (header_shape s) → n ≡ fitting (i + 0) (length t.ballots)
      → take n t.ballots ≡ (pieces_of s t).ballots
  unfolding pieces_of piece_of
  ballots_piece i n h e = ap (λ (x : ℕ). take x t.ballots)
      (e ∙ ap (λ (x : ℕ). fitting x (length t.ballots)) {x = i + 0} {y = ballot_bytes (header_shape s)} (omega arith))

  pub tape_piece : (c n : ℕ) → c ≡ conditional_in s t → n ≡ fitting (c + 0) (length t.tapes) → take n t.tapes ≡ (pieces_of s t).tapes
  unfolding pieces_of piece_of
  tape_piece c n h e = ap (λ (x : ℕ). take x t.tapes)
      (e ∙ ap (λ (x : ℕ). fitting x (length t.tapes)) {x = c + 0} {y = conditional_in s t} (omega arith))

  pub wires_piece : (i g n : ℕ) → i ≡ ballot_bytes (header_shape s) → g ≡ s.gates → n
      ≡ fitting (i + g) (length t.wires) → take n t.wires ≡ (pieces_of s t).wires
  unfolding pieces_of piece_of
  wires_piece i g n h k e =
      ap (λ (x : ℕ). take x t.wires)
      (e ∙ ap (λ (x : ℕ). fitting x (length t.wires)) {x = i + g} {y = ballot_bytes (header_shape s) + s.gates}
      (omega arith))

  pub board_piece : (c n : ℕ) → c ≡ conditional_in s t → n ≡ fitting (c + s.candidates) (length t.boards)
      → take n t.boards ≡ (pieces_of s t).boards
  unfolding pieces_of piece_of
  board_piece c n h e = ap (λ (x : ℕ). take x t.boards) (e ∙ ap (λ (x : ℕ). fitting (x + s.candidates) (length t.boards)) h)

  -- if a jury passes, the next ones decide; if it does not, its reason decides
  pub next_jury : (j : ℕ) (ss : List JuryHeader) → first_of (reasons_of s t) ≡ none
      → first_of (jury_reasons j (s ∷ ss) t) ≡ first_of (jury_reasons (suc j) ss (remaining s t))
  unfolding jury_reasons at_jury first_of
  next_jury j ss e = ap (λ (o : Option Reason). first_of (at_jury j o ∷ jury_reasons (suc j) ss (remaining s t))) e

  pub bad_jury : (j : ℕ) (ss : List JuryHeader) (r : Reason) → first_of (reasons_of s t) ≡ some r
      → first_of (jury_reasons j (s ∷ ss) t) ≡ at_jury j (some r)
  unfolding jury_reasons at_jury first_of
  bad_jury j ss r e = ap (λ (o : Option Reason). first_of (at_jury j o ∷ jury_reasons (suc j) ss (remaining s t))) e

-- a refused answer has the first reason
refused_as : (q : Refusal) (o : Option Reason) (size : Size) → outcome_of (Err q) ≡ outcome o size → o ≡ some (reason_of q)
unfolding outcome_of
refused_as q o size e = outcome_refused o size (reason_of q) (sym e)

-- an accepted answer: no reason applies, and it has the list's C
accepted_mark : (found : ListSize) (o : Option Reason) (gs : List Gate) → outcome_of (Ok found) ≡ outcome o (size_of gs)
    → (o ≡ none) × (found.conditional ≡ conditional_count gs)
unfolding outcome_of size_of
accepted_mark found o gs e =
    let none_applies = outcome_accepted o (size_of gs) (size_in found) (sym e) in
    (none_applies, same_mark (e ∙ ap (λ (x : Option Reason). outcome x (size_of gs)) none_applies))
  where
    same_mark : accepted (size_in found) ≡ outcome none (size_of gs) → found.conditional ≡ conditional_count gs
    same_mark f = unfold outcome in (let same : size_in found ≡ size_of gs = cc in ap (λ (x : Size). x.conditional) same)

-- The juries before j have passed, so the first reason is that of the juries `left`.
pub record TestedSoFar (ss : List JuryHeader) (t : Tables) (j : ℕ) (left : List JuryHeader) (at : Places)
    (conditional : List ℕ) : Type 0 where
  pub reasons : first_of (jury_reasons j left (from at t)) ≡ first_of (jury_reasons 0 ss t)
  pub marks_up : Upto (one_of (λ (s : JuryHeader) (p : Tables). 0)) (one_of marks) (padding ss) left (from at t) j
      conditional (eight_of marks ss t)
  pub wires : at.wires + wire_bytes left ≡ wire_bytes ss
  pub inside : Inside at t

pub tested_start : (ss : List JuryHeader) (l b m ws bs : List ℕ) → length ss ≤ 8
    → TestedSoFar ss (tables_of l b m ws bs) 0 ss start (replicate 8 0)
unfolding eight_of
tested_start ss l b m ws bs few =
    let t = tables_of l b m ws bs in
    record {
      reasons = refl;
      marks_up = upto_start (one_of (λ (s : JuryHeader) (p : Tables). 0)) (one_of marks) (padding ss) ss t
          (replicate 8 0)
          (sym (eight_zeros (λ (s : JuryHeader) (p : Tables). 0) (λ (s : JuryHeader) (p : Tables). refl) ss t few));
      wires = omega arith;
      inside = record { lists = omega arith; ballots = omega arith; tapes = omega arith; wires = omega arith; boards = omega arith };
    }

pub tested_next : (ss : List JuryHeader) (t : Tables) (j : ℕ) (s : JuryHeader) (left : List JuryHeader)
    (at : Places) (conditional : List ℕ) (v : ℕ)
    → TestedSoFar ss t j (s ∷ left) at conditional → first_of (reasons_of s (from at t)) ≡ none → v ≡ conditional_in s (from at t)
    → TestedSoFar ss t (suc j) left (places_after at s (conditional_in s (from at t))) (set conditional j v)
unfolding wire_bytes
tested_next ss t j s left at conditional v k e c =
    let h = from at t in
    let p = jury_passed s h e in
    let q = from_after at s t in
    record {
      reasons = subst (λ (x : Tables). first_of (jury_reasons (suc j) left x) ≡ first_of (jury_reasons 0 ss t)) q
          (sym (next_jury s h j left e) ∙ k.reasons);
      marks_up =
          subst (λ (x : Tables). Upto (one_of (λ (s : JuryHeader) (p : Tables). 0)) (one_of marks) (padding ss) left x
          (suc j) (set conditional j v) (eight_of marks ss t)) q
          (subst (λ (i : ℕ). Upto (one_of (λ (s : JuryHeader) (p : Tables). 0)) (one_of marks) (padding ss) left
          (remaining s h) i (set conditional j v) (eight_of marks ss t)) (add-one j)
          (upto_set (λ (s : JuryHeader) (p : Tables). 0) marks (padding ss) s left h j conditional
          (eight_of marks ss t) k.marks_up v (c ∙ sym p.marked)));
      wires = omega (arith, k.wires);
      inside = inside_next at s t k.inside p;
    }

pub tested_end : (ss : List JuryHeader) (t : Tables) (j : ℕ) (at : Places) (conditional : List ℕ) → TestedSoFar ss t j [] at conditional
    → (none ≡ first_of (jury_reasons 0 ss t)) × (conditional ≡ eight_of marks ss t) × (at.wires ≡ wire_bytes ss)
unfolding jury_reasons first_of wire_bytes
tested_end ss t j at conditional k = (
  k.reasons,
  upto_end (one_of (λ (s : JuryHeader) (p : Tables). 0)) (one_of marks) (padding ss) (from at t) j conditional
      (eight_of marks ss t) k.marks_up,
  omega (arith, k.wires),
)

pub tested_as : (ss : List JuryHeader) (t : Tables) (j j' : ℕ) (left left' : List JuryHeader) (at at' : Places) (conditional : List ℕ)
    → j' ≡ j → left' ≡ left → at' ≡ at → TestedSoFar ss t j left at conditional → TestedSoFar ss t j' left' at' conditional
tested_as ss t j j' left left' at at' conditional e₀ e₁ e₂ k = rw (e₀, e₁, e₂) k

-- what is left of a table from a place on
pub rest_is : (a : ℕ) (xs : List ℕ) → take (length xs - a) (drop a xs) ≡ drop a xs
rest_is a xs = take_all (length xs - a) (drop a xs) (omega (arith, length-drop a xs))

pub lent_same : (l l' b b' m m' w w' o o' : List ℕ) → l ≡ l' → b ≡ b' → m ≡ m' → w ≡ w' → o ≡ o' → tables_of l b m w o ≡ tables_of l' b' m' w' o'
lent_same l l' b b' m m' w w' o o' e₀ e₁ e₂ e₃ e₄ = λ x. record { lists = e₀ x; ballots = e₁ x; tapes = e₂ x; wires = e₃ x; boards = e₄ x }

-- an accepted list has as many gates as its header says, and its own C
pub stated_size : (s : JuryHeader) (t : Tables) (size : Size) → TestPassed (header_shape s) (pieces_of s t).lists size
    → (size.gates ≡ s.gates) × (size.conditional ≡ conditional_in s t)
unfolding pieces_of conditional_in size_of
stated_size s t size k =
    let list = accepted_list (ballot_bytes (header_shape s)) s.candidates (list_of s t) size.gates size.conditional k.tests in
    let limits = bounds (header_shape s) k.within in
    (list.gates_are ∙ (list_fits s t (omega (arith, list.enough, limits.k_least))).1, list.conditional_are)

-- one jury's tests, after those of the juries before it
module _ (ss : List JuryHeader) (l b m ws bs : List ℕ) (j : ℕ) (at : Places) (conditional : List ℕ) (h : j < length ss)
    (so : TestedSoFar ss (tables_of l b m ws bs) j (drop j ss) at conditional) where
  abbrev t : Tables
  t = tables_of l b m ws bs

  abbrev s : JuryHeader
  s = jury_of ss j

  -- what is left of the tables
  abbrev left : Tables
  left = tables_of (take (length l - at.lists) (drop at.lists l)) (take (length b - at.ballots) (drop at.ballots b))
      (take (length m - at.tapes) (drop at.tapes m)) (take (length ws - at.wires) (drop at.wires ws))
      (take (length bs - at.boards) (drop at.boards bs))

  left_is : left ≡ from at t
  left_is = lent_same _ _ _ _ _ _ _ _ _ _ (rest_is at.lists l) (rest_is at.ballots b) (rest_is at.tapes m) (rest_is at.wires ws)
      (rest_is at.boards bs)

  ahead : TestedSoFar ss t j (s ∷ drop (suc j) ss) at conditional
  ahead = subst (λ (rest : List JuryHeader). TestedSoFar ss t j rest at conditional) (drop-cons ss j blank h) so

  -- the jury is refused
  pub jury_refused : (q : Refusal) → JuryTested s left (outcome_of (Err q))
      → some (reason_at (reason_of q).number j) ≡ first_of (jury_reasons 0 ss t)
  unfolding at_jury
  jury_refused q e =
      let bad = refused_as q _ _ (subst (λ (x : Tables). JuryTested s x (outcome_of (Err q))) left_is e) in
      sym (bad_jury s (from at t) j (drop (suc j) ss) (reason_of q) bad) ∙ ahead.reasons

  -- the jury is accepted
  module _ (found : ListSize) (e : JuryTested s left (outcome_of (Ok found))) where
    well : (first_of (reasons_of s (from at t)) ≡ none) × (found.conditional ≡ conditional_in s (from at t))
    unfolding conditional_in
    well = accepted_mark found _ _ (subst (λ (x : Tables). JuryTested s x (outcome_of (Ok found))) left_is e)

    pub jury_within : T (within_limits (header_shape s))
    jury_within = (jury_passed s (from at t) well.0).is_within

    pub jury_inside : Inside (places_after at s found.conditional) t
    jury_inside = subst (λ (c : ℕ). Inside (places_after at s c) t) (sym well.1)
        (inside_next at s t so.inside (jury_passed s (from at t) well.0))

    pub jury_accepted : (to : Places) → to ≡ places_after at s found.conditional
        → TestedSoFar ss t (j + 1) (drop (j + 1) ss) to (set conditional j found.conditional)
    jury_accepted to to_is =
        tested_as ss t (suc j) (j + 1) (drop (suc j) ss) (drop (j + 1) ss) _ to _ (add-one j)
        (ap (λ (x : ℕ). drop x ss) (add-one j))
        (to_is ∙ ap (places_after at s) well.1)
        (tested_next ss t j s (drop (suc j) ss) at conditional found.conditional ahead well.0 well.1)

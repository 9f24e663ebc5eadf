-- One jury's turn in a round, over plain values: its pieces lie in the tables, it has what its turn requires, and
-- after its turn the round is one jury further.
-- Assumes nothing.
use Rattle.std.proofs.Common.{◌≡◌, ◌∙◌, sym, ap, subst, List, ◌∷◌, ◌++◌, ℕ, suc, ◌+◌, ◌-◌, ◌≤◌, ◌<◌, T, length, get_or, set, take, drop, drop-cons, add-one, arith}
use Rattle.jury.specs.Shape.{within_limits, ballot_bytes}
use Rattle.dispatch_rounds.specs.declared.header.JuryHeader.{JuryHeader}
use Rattle.dispatch_rounds.specs.declared.header.Places.{Places}
use Rattle.dispatch_rounds.specs.Tables.{Tables, tables_of, header_shape, conditional_in, pieces_of}
use Rattle.dispatch_rounds.specs.inner.State.{places_after, JuryState}
use Rattle.dispatch_rounds.proofs.MidRound.{from, inside_next, Mid, mid_passed, mid_mark, mid_wires, mid_wires_room, mid_boards, mid_boards_room, mid_shown, mid_stands, mid_next, slice_is, part_long, jury_as, jury_back, mid_as}

-- a header past the last
abbrev pub blank : JuryHeader
blank = record { candidates = 0; grades = 0; ballots = 0; gates = 0 }

-- jury j's header
abbrev pub jury_of : List JuryHeader → ℕ → JuryHeader
jury_of ss j = get_or ss j blank

-- a jury's pieces end where the next one's begin, and lie within the tables
pub record PiecesLie (l b m wires boards : List ℕ) (at to : Places) : Type 0 where
  pub lists_from : at.lists ≤ to.lists
  pub lists_to : to.lists ≤ length l
  pub ballots_from : at.ballots ≤ to.ballots
  pub ballots_to : to.ballots ≤ length b
  pub tapes_from : at.tapes ≤ to.tapes
  pub tapes_to : to.tapes ≤ length m
  pub wires_from : at.wires ≤ to.wires
  pub wires_to : to.wires ≤ length wires
  pub boards_from : at.boards ≤ to.boards
  pub boards_to : to.boards ≤ length boards

-- the part of a table from one place up to another
abbrev pub part : ℕ → ℕ → List ℕ → List ℕ
part at to xs = take (to - at) (drop at xs)

-- a table in which that part is overwritten
abbrev pub spliced : ℕ → ℕ → List ℕ → List ℕ → List ℕ
spliced at to xs q = take at xs ++ (q ++ drop (to - at) (drop at xs))

-- the pieces that a turn is given to read, and any old contents of wires and board
abbrev pub read_pieces : (l b m : List ℕ) → Places → Places → List ℕ → List ℕ → Tables
read_pieces l b m at to wires board =
    tables_of (part at.lists to.lists l) (part at.ballots to.ballots b) (part at.tapes to.tapes m) wires board

module _ (ss : List JuryHeader) (l b m ws bs : List ℕ) (given next : ℕ) (conditional : List ℕ) (j : ℕ) (at : Places)
    (wires boards shown : List ℕ) (h : j < length ss)
    (mid : Mid ss (tables_of l b m ws bs) given next conditional j (drop j ss) at wires boards shown) where
  abbrev t : Tables
  t = tables_of l b m ws bs

  abbrev s : JuryHeader
  s = get_or ss j blank

  abbrev p : Tables
  p = pieces_of s (from at t)

  abbrev n : ℕ
  n = ballot_bytes (header_shape s) + s.gates

  abbrev c : ℕ
  c = conditional_in s (from at t) + s.candidates

  -- in a turn, a jury is left
  turn : Mid ss t given next conditional j (s ∷ drop (suc j) ss) at wires boards shown
  turn = subst (λ (left : List JuryHeader). Mid ss t given next conditional j left at wires boards shown) (drop-cons ss j blank h) mid

  mark : get_or conditional j 0 ≡ conditional_in s (from at t)
  mark = mid_mark ss t given next conditional j s (drop (suc j) ss) at wires boards shown turn 0

  pub turn_within : T (within_limits (header_shape s))
  turn_within = (mid_passed ss t given next conditional j s (drop (suc j) ss) at wires boards shown turn).is_within

  -- the places after the jury do not wrap
  pub after_lie : PiecesLie l b m wires boards at (places_after at s (get_or conditional j 0))
  after_lie =
      let k = mid_passed ss t given next conditional j s (drop (suc j) ss) at wires boards shown turn in
      let i = inside_next at s t turn.inside k in
      record {
        lists_from = omega arith;
        lists_to = omega (arith, i.lists);
        ballots_from = omega arith;
        ballots_to = omega (arith, i.ballots);
        tapes_from = omega arith;
        tapes_to = omega (arith, i.tapes, mark);
        wires_from = omega arith;
        wires_to = omega (arith, mid_wires_room ss t given next conditional j s (drop (suc j) ss) at wires boards shown turn);
        boards_from = omega arith;
        boards_to = omega (arith, mark, mid_boards_room ss t given next conditional j s (drop (suc j) ss) at wires boards shown turn);
      }

  module _ (to : Places) (to_is : to ≡ places_after at s (get_or conditional j 0)) where
    to_are : to ≡ places_after at s (conditional_in s (from at t))
    to_are = to_is ∙ ap (places_after at s) mark

    pub turn_lies : PiecesLie l b m wires boards at to
    turn_lies = subst (PiecesLie l b m wires boards at) (sym to_is) after_lie

    list_is : part at.lists to.lists l ≡ p.lists
    list_is = slice_is _ at.lists to.lists l (ap (λ (x : Places). x.lists) to_are)
        ∙ sym (mid_passed ss t given next conditional j s (drop (suc j) ss) at wires boards shown turn).list_is

    ballots_are : part at.ballots to.ballots b ≡ p.ballots
    ballots_are = slice_is _ at.ballots to.ballots b (ap (λ (x : Places). x.ballots) to_are)
        ∙ sym (mid_passed ss t given next conditional j s (drop (suc j) ss) at wires boards shown turn).ballots_are

    tape_is : part at.tapes to.tapes m ≡ p.tapes
    tape_is = slice_is _ at.tapes to.tapes m (ap (λ (x : Places). x.tapes) to_are)
        ∙ sym (mid_passed ss t given next conditional j s (drop (suc j) ss) at wires boards shown turn).tape_is

    -- the jury has what its turn requires
    pub turn_state : JuryState given s (read_pieces l b m at to p.wires p.boards) (part at.wires to.wires wires)
        (part at.boards to.boards boards) (get_or shown j 0)
    turn_state =
        jury_as given s p _ _ _ _ _ _ _ _ _ list_is ballots_are tape_is
        (slice_is n at.wires to.wires wires (ap (λ (x : Places). x.wires) to_are)
        ∙ mid_wires ss t given next conditional j s (drop (suc j) ss) at wires boards shown turn)
        (slice_is c at.boards to.boards boards (ap (λ (x : Places). x.boards) to_are)
        ∙ mid_boards ss t given next conditional j s (drop (suc j) ss) at wires boards shown turn)
        (mid_shown ss t given next conditional j s (drop (suc j) ss) at wires boards shown turn 0)
        (mid_stands ss t given next conditional j s (drop (suc j) ss) at wires boards shown turn)

    -- after its turn
    pub turn_done : (q r : List ℕ) (v : ℕ) → length q ≡ length (part at.wires to.wires wires)
        → length r ≡ length (part at.boards to.boards boards) → JuryState next s (read_pieces l b m at to p.wires p.boards) q r v
        → Mid ss t given next conditional (j + 1) (drop (j + 1) ss) to (spliced at.wires to.wires wires q)
        (spliced at.boards to.boards boards r) (set shown j v)
    turn_done q r v lq lr done =
        mid_as ss t given next conditional (suc j) (j + 1) (drop (suc j) ss) (drop (j + 1) ss) _ to _ _ _ _ _
        (add-one j)
        (ap (λ (x : ℕ). drop x ss) (add-one j))
        to_are
        (ap (λ (x : ℕ). take at.wires wires ++ (q ++ drop x (drop at.wires wires))) {x = to.wires - at.wires} {y = n}
        (omega (arith, ap (λ (x : Places). x.wires) to_are)))
        (ap (λ (x : ℕ). take at.boards boards ++ (r ++ drop x (drop at.boards boards))) {x = to.boards - at.boards} {y = c}
        (omega (arith, ap (λ (x : Places). x.boards) to_are)))
        (mid_next ss t given next conditional j s (drop (suc j) ss) at wires boards shown turn q r v
        (jury_back next s p _ _ _ q r v list_is ballots_are tape_is done)
        (lq ∙ ap length (slice_is n at.wires to.wires wires (ap (λ (x : Places). x.wires) to_are))
        ∙ part_long n at.wires wires (mid_wires_room ss t given next conditional j s (drop (suc j) ss) at wires boards shown turn))
        (lr ∙ ap length (slice_is c at.boards to.boards boards (ap (λ (x : Places). x.boards) to_are))
        ∙ part_long c at.boards boards (mid_boards_room ss t given next conditional j s (drop (suc j) ss) at wires boards shown turn)))

-- A round, one jury after the other: the juries before j have had their turn, and the others are as they were after
-- the round before.
-- Assumes nothing.
use mathlib.Core.Path.{◌≡◌, ◌∙◌, refl, sym, ap, subst}
use mathlib.Core.Option.{none}
use mathlib.Core.List.{List, [], ◌∷◌, ◌++◌}
use Prim.Native.Nat.{ℕ, suc, ◌+◌, ◌-◌, ◌*◌, ◌≤◌}
use native.Mathlib.Numerals.{add-one}
use native.Mathlib.Omega.{arith}
use lib.ListN.{length, get_or, set, take, drop, replicate, length-append, length-drop}
use lib.Seq.{length-take-le, drop-drop, append_snoc}
use Rattle.gates.specs.Gate.{gates_of}
use Rattle.gates.specs.Board.{conditional_count}
use Rattle.jury.specs.Shape.{ballot_bytes}
use Rattle.jury.specs.Reason.{first_of}
use Rattle.dispatch_rounds.specs.declared.header.JuryHeader.{JuryHeader}
use Rattle.dispatch_rounds.specs.declared.header.Places.{Places}
use Rattle.dispatch_rounds.specs.Tables.{Tables, tables_of, header_shape, conditional_in, pieces_of, remaining, through}
use Rattle.dispatch_rounds.specs.Reasons.{jury_reasons}
use Rattle.dispatch_rounds.specs.Rounds.{jury_wires, jury_board, jury_shown, wires_given, boards_given, eight_of, BoardsLong, RoundState}
use Rattle.dispatch_rounds.specs.inner.State.{places_after, JuryState}
use Rattle.dispatch_rounds.proofs.Pieces.{Upto, upto_start, upto_end, upto_part, upto_room, upto_next, one_of, upto_read, upto_set}
use Rattle.dispatch_rounds.proofs.Passed.{Passed, jury_passed, first_accepted}
use Rattle.dispatch_rounds.proofs.JuryStates.{jury_wires_long}

-- the tables from these places on
abbrev pub from : Places → Tables → Tables
from at t = tables_of (drop at.lists t.lists) (drop at.ballots t.ballots) (drop at.tapes t.tapes)
    (drop at.wires t.wires) (drop at.boards t.boards)

pub from_after : (at : Places) (s : JuryHeader) (t : Tables) → remaining s (from at t)
    ≡ from (places_after at s (conditional_in s (from at t))) t
unfolding remaining
from_after at s t =
    let i = ballot_bytes (header_shape s) in
    let c = conditional_in s (from at t) in
    let e₀ = drop-drop (4 * s.gates) at.lists t.lists in
    let e₁ = drop-drop i at.ballots t.ballots in
    let e₂ = drop-drop c at.tapes t.tapes in
    let e₃ = drop-drop (i + s.gates) at.wires t.wires in
    let e₄ = drop-drop (c + s.candidates) at.boards t.boards in
    λ x. record { lists = e₀ x; ballots = e₁ x; tapes = e₂ x; wires = e₃ x; boards = e₄ x }

-- places within the tables, or at their ends
pub record Inside (at : Places) (t : Tables) : Type 0 where
  pub lists : at.lists ≤ length t.lists
  pub ballots : at.ballots ≤ length t.ballots
  pub tapes : at.tapes ≤ length t.tapes
  pub wires : at.wires ≤ length t.wires
  pub boards : at.boards ≤ length t.boards

pub inside_next : (at : Places) (s : JuryHeader) (t : Tables) → Inside at t → Passed s (from at t)
    → Inside (places_after at s (conditional_in s (from at t))) t
inside_next at s t i p =
    record {
      lists = omega (arith, i.lists, p.in_lists, length-drop at.lists t.lists);
      ballots = omega (arith, i.ballots, p.in_ballots, length-drop at.ballots t.ballots);
      tapes = omega (arith, i.tapes, p.in_tapes, length-drop at.tapes t.tapes);
      wires = omega (arith, i.wires, p.in_wires, length-drop at.wires t.wires);
      boards = omega (arith, i.boards, p.in_boards, length-drop at.boards t.boards);
    }

abbrev pub marks : JuryHeader → Tables → ℕ
marks s p = conditional_count (gates_of p.lists)

abbrev pub padding : List JuryHeader → Tables → List ℕ
padding ss t = replicate (8 - length ss) 0

-- the middle of a round: the juries `left` have not had their turn
pub record Mid (ss : List JuryHeader) (t : Tables) (given next : ℕ) (conditional : List ℕ) (j : ℕ)
    (left : List JuryHeader) (at : Places) (wires boards shown : List ℕ) : Type 0 where
  pub wires_up : Upto (jury_wires given) (jury_wires next) (λ (t : Tables). t.wires) left (from at t) at.wires wires (wires_given next ss t)
  pub boards_up : Upto (jury_board given) (jury_board next) (λ (t : Tables). t.boards) left (from at t) at.boards
      boards (boards_given next ss t)
  pub shown_up : Upto (one_of (jury_shown given)) (one_of (jury_shown next)) (padding ss) left (from at t) j shown
      (eight_of (jury_shown next) ss t)
  pub marks_up : Upto (one_of marks) (one_of marks) (padding ss) left (from at t) j conditional conditional
  pub accepted : first_of (jury_reasons j left (from at t)) ≡ none
  pub inside : Inside at t
  pub long : BoardsLong given left (from at t)
  pub long_done : BoardsLong next left (from at t) → BoardsLong next ss t

abbrev pub start : Places
start = record { lists = 0; ballots = 0; tapes = 0; wires = 0; boards = 0 }

pub mid_start : (given next : ℕ) (ss : List JuryHeader) (l b m ws bs conditional wires boards shown : List ℕ)
    → RoundState given ss (tables_of l b m ws bs) conditional wires boards shown
    → Mid ss (tables_of l b m ws bs) given next conditional 0 ss start wires boards shown
unfolding wires_given boards_given eight_of
mid_start given next ss l b m ws bs conditional wires boards shown s =
    let t = tables_of l b m ws bs in
    let c = s.conditional_are in
    record {
      wires_up = upto_start (jury_wires given) (jury_wires next) (λ (t : Tables). t.wires) ss t wires s.wires_are;
      boards_up = upto_start (jury_board given) (jury_board next) (λ (t : Tables). t.boards) ss t boards s.boards_are;
      shown_up = upto_start (one_of (jury_shown given)) (one_of (jury_shown next)) (padding ss) ss t shown s.shown_are;
      marks_up = record { front = []; long = refl; here_is = c; final_is = c };
      accepted = s.accepted;
      inside = record { lists = omega arith; ballots = omega arith; tapes = omega arith; wires = omega arith; boards = omega arith };
      long = s.long;
      long_done = λ (x : BoardsLong next ss t). x;
    }

-- at the end of the round
pub mid_end : (ss : List JuryHeader) (t : Tables) (given next : ℕ) (conditional : List ℕ) (j : ℕ) (at : Places)
    (wires boards shown : List ℕ)
    → first_of (jury_reasons 0 ss t) ≡ none → conditional ≡ eight_of marks ss t
    → Mid ss t given next conditional j [] at wires boards shown → RoundState next ss t conditional wires boards shown
mid_end ss t given next conditional j at wires boards shown a c m =
    record {
      accepted = a;
      conditional_are = c;
      wires_are = upto_end (jury_wires given) (jury_wires next) (λ (t : Tables). t.wires) (from at t) at.wires
          wires (wires_given next ss t) m.wires_up;
      boards_are = upto_end (jury_board given) (jury_board next) (λ (t : Tables). t.boards) (from at t) at.boards
          boards (boards_given next ss t) m.boards_up;
      shown_are = upto_end (one_of (jury_shown given)) (one_of (jury_shown next)) (padding ss) (from at t) j shown
          (eight_of (jury_shown next) ss t) m.shown_up;
      long = m.long_done tt;
    }

module _ (ss : List JuryHeader) (t : Tables) (given next : ℕ) (conditional : List ℕ) (j : ℕ) (s : JuryHeader)
    (left : List JuryHeader) (at : Places) (wires boards shown : List ℕ)
    (m : Mid ss t given next conditional j (s ∷ left) at wires boards shown) where
  -- facts about the jury whose turn it is
  pub mid_passed : Passed s (from at t)
  mid_passed = jury_passed s (from at t) (first_accepted j s left (from at t) m.accepted).0

  pub mid_mark : (d : ℕ) → get_or conditional j d ≡ conditional_in s (from at t)
  mid_mark d = upto_read marks marks (padding ss) s left (from at t) j conditional conditional m.marks_up d ∙ mid_passed.marked

  wires_long : length (jury_wires given s (pieces_of s (from at t))) ≡ ballot_bytes (header_shape s) + s.gates
  wires_long =
      let p = mid_passed in
      jury_wires_long s (pieces_of s (from at t)) given p.gates (omega (arith, p.wires_long, p.ballots_long)) ∙ p.wires_long

  pub mid_wires : take (ballot_bytes (header_shape s) + s.gates) (drop at.wires wires) ≡ jury_wires given s (pieces_of s (from at t))
  mid_wires =
      upto_part (jury_wires given) (jury_wires next) (λ (t : Tables). t.wires) s left (from at t) at.wires
      (ballot_bytes (header_shape s) + s.gates) wires (wires_given next ss t) m.wires_up wires_long

  pub mid_wires_room : at.wires + (ballot_bytes (header_shape s) + s.gates) ≤ length wires
  mid_wires_room =
      upto_room (jury_wires given) (jury_wires next) (λ (t : Tables). t.wires) s left (from at t) at.wires
      (ballot_bytes (header_shape s) + s.gates) wires (wires_given next ss t) m.wires_up wires_long

  pub mid_boards : take (conditional_in s (from at t) + s.candidates) (drop at.boards boards)
      ≡ jury_board given s (pieces_of s (from at t))
  mid_boards =
      upto_part (jury_board given) (jury_board next) (λ (t : Tables). t.boards) s left (from at t) at.boards
      (conditional_in s (from at t) + s.candidates) boards (boards_given next ss t) m.boards_up m.long.0

  pub mid_boards_room : at.boards + (conditional_in s (from at t) + s.candidates) ≤ length boards
  mid_boards_room =
      upto_room (jury_board given) (jury_board next) (λ (t : Tables). t.boards) s left (from at t) at.boards
      (conditional_in s (from at t) + s.candidates) boards (boards_given next ss t) m.boards_up m.long.0

  pub mid_shown : (d : ℕ) → get_or shown j d ≡ jury_shown given s (pieces_of s (from at t))
  mid_shown d = upto_read (jury_shown given) (jury_shown next) (padding ss) s left (from at t) j shown
      (eight_of (jury_shown next) ss t) m.shown_up d

  pub mid_stands : JuryState given s (pieces_of s (from at t)) (jury_wires given s (pieces_of s (from at t)))
      (jury_board given s (pieces_of s (from at t))) (jury_shown given s (pieces_of s (from at t)))
  mid_stands =
      let p = mid_passed in
      record { run = p.run; some_gate = p.some_gate; gates = p.gates; wires_are = refl; board_is = refl; count = refl }

  -- after its turn
  pub mid_next : (q r : List ℕ) (v : ℕ) → JuryState next s (pieces_of s (from at t)) q r v → length q ≡ ballot_bytes (header_shape s) + s.gates
      → length r ≡ conditional_in s (from at t) + s.candidates
      → Mid ss t given next conditional (suc j) left (places_after at s (conditional_in s (from at t)))
      (take at.wires wires ++ (q ++ drop (ballot_bytes (header_shape s) + s.gates) (drop at.wires wires)))
      (take at.boards boards ++ (r ++ drop (conditional_in s (from at t) + s.candidates) (drop at.boards boards)))
      (set shown j v)
  mid_next q r v st lq lr =
      let here = from at t in
      let e = from_after at s t in
      let n = ballot_bytes (header_shape s) + s.gates in
      let c = conditional_in s here in
      let at' = places_after at s c in
      record {
        wires_up =
            subst (λ (x : Tables). Upto (jury_wires given) (jury_wires next) (λ (t : Tables). t.wires) left x
            (at.wires + n) (take at.wires wires ++ (q ++ drop n (drop at.wires wires)))
            (wires_given next ss t)) e
            (upto_next (jury_wires given) (jury_wires next) (λ (t : Tables). t.wires) s left here at.wires n wires
            (wires_given next ss t) m.wires_up wires_long q st.wires_are lq);
        boards_up =
            subst (λ (x : Tables). Upto (jury_board given) (jury_board next) (λ (t : Tables). t.boards) left x
            (at.boards + (c + s.candidates))
            (take at.boards boards ++ (r ++ drop (c + s.candidates) (drop at.boards boards)))
            (boards_given next ss t)) e
            (upto_next (jury_board given) (jury_board next) (λ (t : Tables). t.boards) s left here at.boards
            (c + s.candidates) boards (boards_given next ss t) m.boards_up m.long.0 r st.board_is lr);
        shown_up =
            subst (λ (x : Tables). Upto (one_of (jury_shown given)) (one_of (jury_shown next)) (padding ss) left x
            (suc j) (set shown j v) (eight_of (jury_shown next) ss t)) e
            (subst (λ (i : ℕ). Upto (one_of (jury_shown given)) (one_of (jury_shown next)) (padding ss) left
            (remaining s here) i (set shown j v) (eight_of (jury_shown next) ss t)) (add-one j)
            (upto_set (jury_shown given) (jury_shown next) (padding ss) s left here j shown
            (eight_of (jury_shown next) ss t) m.shown_up v st.count));
        marks_up =
            subst (λ (x : Tables). Upto (one_of marks) (one_of marks) (padding ss) left x (suc j) conditional conditional) e (marks_next);
        accepted = subst (λ (x : Tables). first_of (jury_reasons (suc j) left x) ≡ none) e (first_accepted j s left here m.accepted).1;
        inside = inside_next at s t m.inside mid_passed;
        long = subst (λ (x : Tables). BoardsLong given left x) e m.long.1;
        long_done = λ (x : BoardsLong next left (from at' t)).
            m.long_done (ap length (sym st.board_is) ∙ lr, subst (λ (y : Tables). BoardsLong next left y) (sym e) x);
      }
    where
      marks_next : Upto (one_of marks) (one_of marks) (padding ss) left (remaining s (from at t)) (suc j) conditional conditional
      marks_next =
          let u = m.marks_up in
          let y = marks s (pieces_of s (from at t)) in
          unfold through in
          (record {
            front = u.front ++ (y ∷ []);
            long = omega (arith, length-append u.front (y ∷ []), u.long);
            here_is = u.here_is ∙ sym (append_snoc u.front y (through (one_of marks) (padding ss) left (remaining s (from at t))));
            final_is = u.final_is ∙ sym (append_snoc u.front y (through (one_of marks) (padding ss) left (remaining s (from at t))));
          })

-- the part of a table from one place up to another
pub slice_is : (n a e : ℕ) (xs : List ℕ) → e ≡ a + n → take (e - a) (drop a xs) ≡ take n (drop a xs)
slice_is n a e xs h = ap (λ (k : ℕ). take k (drop a xs)) {x = e - a} {y = n} (omega arith)

pub part_long : (n a : ℕ) (xs : List ℕ) → a + n ≤ length xs → length (take n (drop a xs)) ≡ n
part_long n a xs h = length-take-le n (drop a xs) (omega (arith, length-drop a xs))

-- the same jury, with equal lists for its pieces
pub jury_as : (given : ℕ) (s : JuryHeader) (p : Tables) (l b m w o w' o' : List ℕ) (n n' : ℕ) → l ≡ p.lists → b
    ≡ p.ballots → m ≡ p.tapes → w ≡ w' → o ≡ o' → n ≡ n'
    → JuryState given s p w' o' n' → JuryState given s (tables_of l b m p.wires p.boards) w o n
jury_as given s p l b m w o w' o' n n' e₀ e₁ e₂ e₃ e₄ e₅ j = rw (e₀, e₁, e₂, e₃, e₄, e₅) j

pub jury_back : (given : ℕ) (s : JuryHeader) (p : Tables) (l b m w o : List ℕ) (n : ℕ) → l ≡ p.lists → b ≡ p.ballots → m ≡ p.tapes
    → JuryState given s (tables_of l b m p.wires p.boards) w o n → JuryState given s p w o n
jury_back given s p l b m w o n e₀ e₁ e₂ j =
    subst (λ (x : List ℕ). JuryState given s (tables_of p.lists p.ballots x p.wires p.boards) w o n) e₂
    (subst (λ (x : List ℕ). JuryState given s (tables_of p.lists x m p.wires p.boards) w o n) e₁
    (subst (λ (x : List ℕ). JuryState given s (tables_of x b m p.wires p.boards) w o n) e₀ j))

-- the same point of a round, with equal values
pub mid_as : (ss : List JuryHeader) (t : Tables) (given next : ℕ) (conditional : List ℕ) (j j' : ℕ)
    (left left' : List JuryHeader) (at at' : Places) (wires wires' boards boards' shown : List ℕ)
    → j' ≡ j → left' ≡ left → at' ≡ at → wires' ≡ wires → boards' ≡ boards → Mid ss t given next conditional j left at wires boards shown
    → Mid ss t given next conditional j' left' at' wires' boards' shown
mid_as ss t given next conditional j j' left left' at at' wires wires' boards boards' shown e₀ e₁ e₂ e₃ e₄ m = rw (e₀, e₁, e₂, e₃, e₄) m

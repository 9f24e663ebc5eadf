-- One jury's turn in a round.
-- Assumes nothing.
use mathlib.Core.Path.{◌≡◌, ◌∙◌, refl, sym, ap}
use mathlib.Core.Bool.{Bool, false, cond}
use mathlib.Core.List.{List, ◌++◌}
use Prim.Native.Nat.{ℕ, zero, suc, ◌+◌, ◌≤◌, ◌<◌, min}
use native.Mathlib.Nat.{min-eq_left, min-eq_right}
use native.Mathlib.Omega.{arith}
use lib.Dec.{eqb}
use lib.ListN.{length, take, drop, length-append, length-drop}
use lib.Seq.{length-take-le}
use borrow.Author.Tests.{lt-ltb, le-ltb, ne_eqb}
use Rattle.gates.specs.Gate.{Gate, gates_of}
use Rattle.gates.specs.Wires.{wires_of, outputs_of}
use Rattle.gates.specs.Board.{conditional_count, shown_bits, board_of}
use Rattle.gates.specs.inner.Step.{RunReady}
use Rattle.gates.proofs.WireLaws.{length_wires}
use Rattle.gates.proofs.Prefix.{Stands, stands_first, closed_board}
use Rattle.dispatch_rounds.specs.declared.header.JuryHeader.{JuryHeader}
use Rattle.dispatch_rounds.specs.Tables.{Tables}
use Rattle.dispatch_rounds.specs.Rounds.{wires_after, board_after, jury_wires, jury_board, jury_shown}
use Rattle.dispatch_rounds.specs.inner.State.{JuryState}

-- the definitions, for some and for all gates
after_wires : (b : List ℕ) (gs : List Gate) (m : ℕ) (ws : List ℕ) → 1 ≤ m → wires_after b gs m ws
    ≡ wires_of b (take m gs) ++ drop (length b + m) ws
unfolding wires_after
after_wires b gs zero ws h = absurd (omega arith)
after_wires b gs (suc m) ws h = refl

after_some : (b : List ℕ) (gs : List Gate) (k : ℕ) (tape : List ℕ) (m : ℕ) (board : List ℕ) → m < length gs
    → board_after b gs k tape m board ≡ shown_bits (wires_of b gs) (take m gs) tape ++ drop (conditional_count (take m gs)) board
unfolding board_after
after_some b gs k tape m board h = rw (lt-ltb m (length gs) h)

pub after_all : (b : List ℕ) (gs : List Gate) (k : ℕ) (tape : List ℕ) (m : ℕ) (board : List ℕ) → length gs ≤ m
    → board_after b gs k tape m board ≡ board_of (wires_of b gs) gs k tape
unfolding board_after
after_all b gs k tape m board h = rw (le-ltb m (length gs) h)

-- the length of the wire table stays the same
after_wires_long : (b : List ℕ) (gs : List Gate) (m : ℕ) (ws : List ℕ) → m ≤ length gs → length ws ≡ length b
    + length gs → length (wires_after b gs m ws) ≡ length ws
unfolding wires_after
after_wires_long b gs zero ws h l = refl
after_wires_long b gs (suc m) ws h l =
    omega (
      arith,
      length-append (wires_of b (take (suc m) gs)) (drop (length b + suc m) ws),
      length_wires b (take (suc m) gs),
      length-take-le (suc m) gs h,
      length-drop (length b + suc m) ws,
    )

module _ (s : JuryHeader) (p : Tables) where
  first_part : (m : ℕ) (ws ws' board : List ℕ) (shown : ℕ)
      → RunReady p.ballots p.lists s.candidates p.tapes p.wires p.boards
      → ws ≡ wires_after p.ballots (gates_of p.lists) m p.wires
      → board ≡ shown_bits (wires_of p.ballots (gates_of p.lists)) (take m (gates_of p.lists)) p.tapes
      ++ drop (conditional_count (take m (gates_of p.lists))) p.boards
      → shown ≡ conditional_count (take m (gates_of p.lists))
      → ws' ≡ cond (eqb m 0) (take (length p.ballots) p.ballots ++ drop (length p.ballots) ws) ws
      → Stands p.ballots p.lists p.tapes p.wires p.boards m ws' board shown
  unfolding wires_after
  first_part zero ws ws' board shown run w o n e =
      let i = length p.ballots in
      let first = stands_first p.ballots p.lists s.candidates p.tapes p.wires p.boards run
      (take i p.ballots ++ drop i p.wires) p.boards 0 refl refl refl in
      stands_first p.ballots p.lists s.candidates p.tapes p.wires p.boards run ws' board shown
      (e ∙ ap (λ (x : List ℕ). take i p.ballots ++ drop i x) w) (o ∙ sym first.board_is) (n ∙ sym first.count)
  first_part (suc m) ws ws' board shown run w o n e =
      let i = length p.ballots in
      let later : eqb (suc m) 0 ≡ false = ne_eqb (suc m) 0 (λ (q : suc m ≡ 0). omega arith) in
      record { wires_are = e ∙ ap (λ (x : Bool). cond x (take i p.ballots ++ drop i ws) ws) later ∙ w; board_is = o; count = n }

  -- a jury that is not finished, after its ballots were put into its wire table
  pub turn_begins : (given : ℕ) (ws ws' board : List ℕ) (shown : ℕ) → JuryState given s p ws board shown → given < s.gates
      → ws' ≡ cond (eqb given 0) (take (length p.ballots) p.ballots ++ drop (length p.ballots) ws) ws
      → Stands p.ballots p.lists p.tapes p.wires p.boards given ws' board shown
  unfolding jury_wires jury_board jury_shown
  turn_begins given ws ws' board shown j h e =
      let m : min given s.gates ≡ given = min-eq_left (omega arith) in
      let b = p.ballots in
      let gates = gates_of p.lists in
      first_part given ws ws' board shown j.run
      (j.wires_are ∙ ap (λ (n : ℕ). wires_after b gates n p.wires) m)
      (j.board_is ∙ ap (λ (n : ℕ). board_after b gates s.candidates p.tapes n p.boards) m
      ∙ after_some b gates s.candidates p.tapes given p.boards (omega (arith, j.gates)))
      (j.count ∙ ap (λ (n : ℕ). conditional_count (take n gates)) m)
      e

  module _ (run : RunReady p.ballots p.lists s.candidates p.tapes p.wires p.boards)
      (some_gate : 1 ≤ s.gates) (gates : length (gates_of p.lists) ≡ s.gates) where
    -- after a round in which it is not finished
    pub turn_goes_on : (given : ℕ) (ws board : List ℕ) (shown : ℕ) → 1 ≤ given → given < s.gates
        → Stands p.ballots p.lists p.tapes p.wires p.boards given ws board shown → JuryState given s p ws board shown
    unfolding jury_wires jury_board jury_shown
    turn_goes_on given ws board shown l h st =
        let m : min given s.gates ≡ given = min-eq_left (omega arith) in
        let b = p.ballots in
        let list = gates_of p.lists in
        record {
          run = run;
          some_gate = some_gate;
          gates = gates;
          wires_are = st.wires_are ∙ sym (after_wires b list given p.wires l) ∙ sym (ap (λ (n : ℕ). wires_after b list n p.wires) m);
          board_is =
              st.board_is ∙ sym (after_some b list s.candidates p.tapes given p.boards (omega (arith, gates)))
              ∙ sym (ap (λ (n : ℕ). board_after b list s.candidates p.tapes n p.boards) m);
          count = st.count ∙ sym (ap (λ (n : ℕ). conditional_count (take n list)) m);
        }

    -- after the round in which it is finished
    pub turn_ends : (given : ℕ) (ws board board' : List ℕ) (shown : ℕ) → s.gates ≤ given
        → Stands p.ballots p.lists p.tapes p.wires p.boards (length (gates_of p.lists)) ws board shown
        → board' ≡ take shown board ++ outputs_of s.candidates ws → JuryState given s p ws board' shown
    unfolding jury_wires jury_board jury_shown
    turn_ends given ws board board' shown h st e =
        let m : min given s.gates ≡ length (gates_of p.lists) = min-eq_right h ∙ sym gates in
        let b = p.ballots in
        let list = gates_of p.lists in
        record {
          run = run;
          some_gate = some_gate;
          gates = gates;
          wires_are = st.wires_are ∙ sym (after_wires b list (length list) p.wires (omega arith))
              ∙ sym (ap (λ (n : ℕ). wires_after b list n p.wires) m);
          board_is =
              closed_board b p.lists s.candidates p.tapes p.wires p.boards run ws board shown st board' e
              ∙ sym (after_all b list s.candidates p.tapes (length list) p.boards (omega arith))
              ∙ sym (ap (λ (n : ℕ). board_after b list s.candidates p.tapes n p.boards) m);
          count = st.count ∙ sym (ap (λ (n : ℕ). conditional_count (take n list)) m);
        }

  -- a finished jury stays as it is
  pub turn_idle : (given more : ℕ) (ws board : List ℕ) (shown : ℕ) → s.gates ≤ given
      → JuryState given s p ws board shown → JuryState (given + more) s p ws board shown
  unfolding jury_wires jury_board jury_shown
  turn_idle given more ws board shown h j =
      let m : min given s.gates ≡ min (given + more) s.gates = min-eq_right h
      ∙ sym (min-eq_right {n = s.gates} {m = given + more} (omega arith)) in
      record {
        run = j.run;
        some_gate = j.some_gate;
        gates = j.gates;
        wires_are = j.wires_are ∙ ap (λ (n : ℕ). wires_after p.ballots (gates_of p.lists) n p.wires) m;
        board_is = j.board_is ∙ ap (λ (n : ℕ). board_after p.ballots (gates_of p.lists) s.candidates p.tapes n p.boards) m;
        count = j.count ∙ ap (λ (n : ℕ). conditional_count (take n (gates_of p.lists))) m;
      }

  pub jury_wires_long : (given : ℕ) → length (gates_of p.lists) ≡ s.gates → length p.wires
      ≡ length p.ballots + s.gates → length (jury_wires given s p) ≡ length p.wires
  unfolding jury_wires
  jury_wires_long given g l = after_wires_long p.ballots (gates_of p.lists) (min given s.gates) p.wires
      (omega arith) (omega arith)

  -- before the first round
  pub wires_before : jury_wires 0 s p ≡ p.wires
  unfolding jury_wires wires_after
  wires_before = ap (λ (n : ℕ). wires_after p.ballots (gates_of p.lists) n p.wires) {x = min 0 s.gates} {y = 0} (omega arith)

  pub board_before : RunReady p.ballots p.lists s.candidates p.tapes p.wires p.boards → 1
      ≤ length (gates_of p.lists) → jury_board 0 s p ≡ p.boards
  unfolding jury_board
  board_before run h =
      let i = length p.ballots in
      let first = stands_first p.ballots p.lists s.candidates p.tapes p.wires p.boards run
      (take i p.ballots ++ drop i p.wires) p.boards 0 refl refl refl in
      ap (λ (n : ℕ). board_after p.ballots (gates_of p.lists) s.candidates p.tapes n p.boards)
      {x = min 0 s.gates} {y = 0} (omega arith)
      ∙ after_some p.ballots (gates_of p.lists) s.candidates p.tapes 0 p.boards h
      ∙ sym first.board_is

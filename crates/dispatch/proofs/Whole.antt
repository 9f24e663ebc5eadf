-- All juries together: before the first round, after the last, and the reasons of a call.
-- Assumes nothing.
use mathlib.Core.Path.{◌≡◌, ◌∙◌, refl, sym, ap, subst}
use mathlib.Core.Bool.{true, false, ◌&&◌}
use mathlib.Core.Logic.{◌↔◌, ⊎_elim}
use mathlib.Core.Option.{Option, none, some}
use mathlib.Core.List.{List, [], ◌∷◌, ◌++◌, append_assoc}
use Prim.Native.Nat.{ℕ, suc, ◌+◌, ◌-◌, ◌*◌, ◌/◌, ◌%◌, ◌≤◌, ◌<◌, min, max}
use native.Mathlib.Nat.{min-eq_right, suc-mul, mul-le-mul, div-lt_iff_lt-mul}
use Rattle.std.proofs.lemmas.Grind.{div_ceil_times}
use native.Mathlib.Omega.{arith}
use lib.Dec.{leb}
use lib.ListN.{length, take, drop, replicate, take-append-drop, length-append, replicate-append-replicate}
use lib.Seq.{length-take-le, drop-append-add}
use Rattle.gates.specs.Gate.{gates_of}
use Rattle.gates.specs.Board.{conditional_count}
use Rattle.gates.proofs.Counting.{count_nil}
use Rattle.jury.specs.Shape.{ballot_bytes}
use Rattle.basics.proofs.Cases.{below_or_not}
use Rattle.jury.specs.Reason.{Reason, reason_at, unless, first_of}
use Rattle.tally.specs.Run.{RunResult, run_result_after}
use Rattle.tally.proofs.RunReasons.{ran_by}
use Rattle.dispatch_rounds.specs.declared.header.JuryHeader.{JuryHeader}
use Rattle.dispatch_rounds.specs.Tables.{Tables, header_shape, conditional_in, pieces_of, remaining, through}
use Rattle.dispatch_rounds.specs.Reasons.{reasons_of, jury_reasons}
use Rattle.dispatch.specs.Call.{Call, juries_in}
use Rattle.dispatch.specs.Reasons.{dispatch_reasons}
use Rattle.dispatch.specs.NoIdleRound.{jury_at, GetsGate}
use Rattle.dispatch_rounds.specs.Rounds.{rounds_for, board_after, jury_wires, jury_board, jury_shown, wires_given, boards_given, eight_of, BoardsLong, RoundState}
use Rattle.dispatch.specs.Result.{run_board, zero_wires, DispatchResult, dispatch_result_after, dispatch_result}
use Rattle.dispatch.specs.inner.Rounds.{wire_bytes, longest_list, piece_conditional}
use Rattle.dispatch_rounds.proofs.Pieces.{eight_zeros}
use Rattle.dispatch_rounds.proofs.Passed.{jury_passed, first_accepted}
use Rattle.dispatch_rounds.proofs.JuryStates.{after_all, jury_wires_long, wires_before, board_before}

abbrev wires_left : Tables → List ℕ
wires_left t = t.wires

abbrev boards_left : Tables → List ℕ
boards_left t = t.boards

-- before the first round everything is as it was lent
pub wires_start : (j : ℕ) (ss : List JuryHeader) (t : Tables) → first_of (jury_reasons j ss t) ≡ none → wires_given 0 ss t ≡ t.wires
unfolding wires_given through remaining
wires_start j [] t e = refl
wires_start j (s ∷ ss) t e =
    let a = first_accepted j s ss t e in
    let p = jury_passed s t a.0 in
    let n = ballot_bytes (header_shape s) + s.gates in
    ap (λ (x : List ℕ). x ++ through (jury_wires 0) wires_left ss (remaining s t)) (wires_before s (pieces_of s t) ∙ p.wires_are)
    ∙ ap (λ (x : List ℕ). take n t.wires ++ x) (wires_start (suc j) ss (remaining s t) a.1)
    ∙ take-append-drop n t.wires

pub boards_start : (j : ℕ) (ss : List JuryHeader) (t : Tables) → first_of (jury_reasons j ss t) ≡ none → boards_given 0 ss t ≡ t.boards
unfolding boards_given through remaining
boards_start j [] t e = refl
boards_start j (s ∷ ss) t e =
    let a = first_accepted j s ss t e in
    let p = jury_passed s t a.0 in
    let n = conditional_in s t + s.candidates in
    ap (λ (x : List ℕ). x ++ through (jury_board 0) boards_left ss (remaining s t))
    (board_before s (pieces_of s t) p.run (omega (arith, p.gates, p.some_gate)) ∙ p.board_is)
    ∙ ap (λ (x : List ℕ). take n t.boards ++ x) (boards_start (suc j) ss (remaining s t) a.1)
    ∙ take-append-drop n t.boards

pub boards_long_start : (j : ℕ) (ss : List JuryHeader) (t : Tables) → first_of (jury_reasons j ss t) ≡ none → BoardsLong 0 ss t
boards_long_start j [] t e = tt
boards_long_start j (s ∷ ss) t e =
    let a = first_accepted j s ss t e in
    let p = jury_passed s t a.0 in (
      ap length (board_before s (pieces_of s t) p.run (omega (arith, p.gates, p.some_gate))) ∙ p.board_long,
      boards_long_start (suc j) ss (remaining s t) a.1,
    )

pub shown_start : (ss : List JuryHeader) (t : Tables) → length ss ≤ 8 → eight_of (jury_shown 0) ss t ≡ replicate 8 0
shown_start ss t few = eight_zeros (jury_shown 0) none_shown ss t few
  where
    none_shown : (s : JuryHeader) (p : Tables) → jury_shown 0 s p ≡ 0
    none_shown s p = unfold jury_shown in
        (ap (λ (n : ℕ). conditional_count (take n (gates_of p.lists))) {x = min 0 s.gates} {y = 0} (omega arith)
        ∙ count_nil)

-- a bound for the gates of all juries
pub few_gates : (j : ℕ) (ss : List JuryHeader) (t : Tables) → first_of (jury_reasons j ss t) ≡ none → longest_list ss ≤ 1048576
unfolding longest_list
few_gates j [] t e = omega arith
few_gates j (s ∷ ss) t e =
    let a = first_accepted j s ss t e in
    omega (arith, (jury_passed s t a.0).few_gates, few_gates (suc j) ss (remaining s t) a.1)

-- the longest list
pub most_first : (s : JuryHeader) (ss : List JuryHeader) → longest_list (s ∷ ss) ≡ max s.gates (longest_list ss)
unfolding longest_list
most_first s ss = refl

pub most_none : longest_list [] ≡ 0
unfolding longest_list
most_none = refl

-- a jury that has done all its gates has the board of an undivided run
board_all : (given : ℕ) (s : JuryHeader) (t : Tables) → first_of (reasons_of s t) ≡ none → s.gates ≤ given
    → jury_board given s (pieces_of s t) ≡ run_board s (pieces_of s t)
unfolding jury_board run_board run_result_after reasons_of
board_all given s t e h =
    let p = pieces_of s t in
    let k = jury_passed s t e in
    let gs = gates_of p.lists in
    ap (λ (n : ℕ). board_after p.ballots gs s.candidates p.tapes n p.boards) (min-eq_right h)
    ∙ after_all p.ballots gs s.candidates p.tapes s.gates p.boards (omega (arith, k.gates))
    ∙ sym (ap (λ (r : RunResult). r.board) (ran_by (header_shape s) p.lists p.ballots p.tapes p.wires p.boards none e))

pub boards_end : (given j : ℕ) (ss : List JuryHeader) (t : Tables) → first_of (jury_reasons j ss t) ≡ none → longest_list ss ≤ given
    → boards_given given ss t ≡ through run_board (λ (t : Tables). t.boards) ss t
unfolding boards_given through longest_list
boards_end given j [] t e h = refl
boards_end given j (s ∷ ss) t e h =
    let a = first_accepted j s ss t e in
    ap (λ (x : List ℕ). x ++ through (jury_board given) boards_left ss (remaining s t)) (board_all given s t a.0 (omega arith))
    ∙ ap (λ (x : List ℕ). run_board s (pieces_of s t) ++ x) (boards_end given (suc j) ss (remaining s t) a.1 (omega arith))

-- the wires of all juries, emptied
pub wires_emptied : (given j : ℕ) (ss : List JuryHeader) (t : Tables) → first_of (jury_reasons j ss t) ≡ none
    → replicate (wire_bytes ss) 0 ++ drop (wire_bytes ss) (wires_given given ss t) ≡ through zero_wires (λ (t : Tables). t.wires) ss t
unfolding wires_given through wire_bytes
wires_emptied given j [] t e = refl
wires_emptied given j (s ∷ ss) t e =
    let a = first_accepted j s ss t e in
    let k = jury_passed s t a.0 in
    let p = pieces_of s t in
    let n = ballot_bytes (header_shape s) + s.gates in
    let m = wire_bytes ss in
    let first = jury_wires given s p in
    let rest = through (jury_wires given) wires_left ss (remaining s t) in
    let long : length first ≡ n = jury_wires_long s p given k.gates (omega (arith, k.wires_long, k.ballots_long)) ∙ k.wires_long in
    ap (λ (x : List ℕ). replicate (n + m) 0 ++ x) (ap (λ (i : ℕ). drop (i + m) (first ++ rest)) (sym long) ∙ drop-append-add first rest m)
    ∙ ap (λ (x : List ℕ). x ++ drop m rest) (sym (replicate-append-replicate n m 0))
    ∙ append_assoc (replicate n 0) (replicate m 0) (drop m rest)
    ∙ ap (λ (x : List ℕ). replicate n 0 ++ x) (wires_emptied given (suc j) ss (remaining s t) a.1)
    ∙ ap (λ (i : ℕ). replicate i 0 ++ through zero_wires wires_left ss (remaining s t)) (sym k.wires_long)

pub wires_room : (given j : ℕ) (ss : List JuryHeader) (t : Tables) → first_of (jury_reasons j ss t) ≡ none
    → wire_bytes ss ≤ length (wires_given given ss t)
unfolding wires_given through wire_bytes
wires_room given j [] t e = omega arith
wires_room given j (s ∷ ss) t e =
    let a = first_accepted j s ss t e in
    let k = jury_passed s t a.0 in
    let p = pieces_of s t in
    omega (
      arith,
      jury_wires_long s p given k.gates (omega (arith, k.wires_long, k.ballots_long)),
      k.wires_long,
      length-append (jury_wires given s p) (through (jury_wires given) wires_left ss (remaining s t)),
      wires_room given (suc j) ss (remaining s t) a.1,
    )

-- the first reason of a call, given its first two tests
module _ (c : Call) where
  pub bad_count : (leb 1 c.count && leb c.count 8) ≡ false → first_of (dispatch_reasons c) ≡ some (reason_at 19 0)
  unfolding dispatch_reasons unless first_of
  bad_count e = rw e

  pub bad_per_round : (leb 1 c.count && leb c.count 8) ≡ true → (leb 1 c.gates_per_round && leb c.gates_per_round 65536) ≡ false
      → first_of (dispatch_reasons c) ≡ some (reason_at 20 0)
  unfolding dispatch_reasons unless first_of
  bad_per_round e f = rw (e, f)

  pub by_juries : (leb 1 c.count && leb c.count 8) ≡ true → (leb 1 c.gates_per_round && leb c.gates_per_round 65536) ≡ true
      → first_of (dispatch_reasons c) ≡ first_of (jury_reasons 0 (juries_in c) c.tables)
  unfolding dispatch_reasons unless first_of
  by_juries e f = rw (e, f)

  pub result_by : (o : Option Reason) → first_of (dispatch_reasons c) ≡ o → dispatch_result c ≡ dispatch_result_after o c
  unfolding dispatch_result
  result_by o e = ap (λ (r : Option Reason). dispatch_result_after r c) e

-- two results are equal if their parts are
pub same_result : (x y : DispatchResult) → x.reason ≡ y.reason → x.rounds ≡ y.rounds → x.wires ≡ y.wires
    → x.boards ≡ y.boards → x ≡ y
same_result x y a b c d = rw (a, b, c, d) refl

-- while a jury has gates left, a round gives some jury a gate
some_jury : (n : ℕ) (ss : List JuryHeader) → n < longest_list ss → (j : ℕ) × (j < length ss) × (n < (jury_at j ss).gates)
unfolding longest_list
some_jury n [] h = absurd (omega arith)
some_jury n (s ∷ ss) h =
    ⊎_elim (λ l. (0, omega arith, l))
    (λ l. let r = some_jury n ss (omega (arith, l)) in (suc r.0, omega (arith, r.1), r.2)) (below_or_not n s.gates)

pub gets_gate : (gates_per_round r : ℕ) (ss : List JuryHeader) → 1 ≤ gates_per_round → r * gates_per_round < longest_list ss
    → (j : ℕ) × (j < length ss) × GetsGate gates_per_round r ss j
gets_gate gates_per_round r ss h l =
    let f = some_jury (r * gates_per_round) ss l in (f.0, f.1, more (jury_at f.0 ss).gates f.2)
  where
    more : (gates : ℕ) → r * gates_per_round < gates → min (r * gates_per_round) gates < min (suc r * gates_per_round) gates
    more gates k = omega (arith, suc-mul r gates_per_round)

-- before the first round
pub state_start : (ss : List JuryHeader) (t : Tables) (conditional : List ℕ) → length ss ≤ 8 → first_of (jury_reasons 0 ss t) ≡ none
    → conditional ≡ eight_of piece_conditional ss t → RoundState 0 ss t conditional t.wires t.boards (replicate 8 0)
state_start ss t conditional few e c =
    record {
      accepted = e;
      conditional_are = c;
      wires_are = sym (wires_start 0 ss t e);
      boards_are = sym (boards_start 0 ss t e);
      shown_are = sym (shown_start ss t few);
      long = boards_long_start 0 ss t e;
    }

-- the wire table after the wires of all juries are emptied
pub emptied : (given : ℕ) (ss : List JuryHeader) (t : Tables) → first_of (jury_reasons 0 ss t) ≡ none
    → (n : ℕ) (w last : List ℕ) → n ≡ wire_bytes ss → w ≡ wires_given given ss t
    → last ≡ replicate (length (take n w)) 0 → last ++ drop n w ≡ through zero_wires (λ (t : Tables). t.wires) ss t
emptied given ss t e n w last h k f =
    let long : length (take n w) ≡ wire_bytes ss = length-take-le n w (omega (arith, ap length k, wires_room given 0 ss t e)) ∙ h in
    ap (λ (x : List ℕ). x ++ drop n w) (f ∙ ap (λ (i : ℕ). replicate i 0) long)
    ∙ ap (λ (x : List ℕ). replicate (wire_bytes ss) 0 ++ drop n x) k
    ∙ ap (λ (i : ℕ). replicate (wire_bytes ss) 0 ++ drop i (wires_given given ss t)) h
    ∙ wires_emptied given 0 ss t e

-- `rounds_for` rounds up
pub rounds_most : (gates gates_per_round r : ℕ) → 1 ≤ gates_per_round → (rounds_for gates gates_per_round ≤ r) ↔ (gates ≤ r * gates_per_round)
unfolding rounds_for
rounds_most gates gates_per_round r h =
    let iff = div-lt_iff_lt-mul {k = gates_per_round} {x = gates + (gates_per_round - 1)} {y = suc r} h in (
      λ (p : (gates + (gates_per_round - 1)) / gates_per_round ≤ r). let q : gates + (gates_per_round - 1) < suc r * gates_per_round =
          iff.0 (omega arith) in omega (arith, suc-mul r gates_per_round),
      λ (p : gates ≤ r * gates_per_round). let q : (gates + (gates_per_round - 1)) / gates_per_round < suc r =
          iff.1 (omega (arith, suc-mul r gates_per_round)) in omega arith,
    )

-- the library's division that rounds up is this one
pub ceil_is : (gates gates_per_round n : ℕ) → 1 ≤ gates_per_round
    → n ≡ gates / gates_per_round + min 1 (gates % gates_per_round) → n ≡ rounds_for gates gates_per_round
ceil_is gates gates_per_round n h e =
    let r = rounds_for gates gates_per_round in
    let times = div_ceil_times gates gates_per_round h in
    let enough : gates ≤ n * gates_per_round = subst (λ (m : ℕ). gates ≤ m * gates_per_round) (sym e) times.0 in
    let few : n * gates_per_round < gates + gates_per_round = subst (λ (m : ℕ). m * gates_per_round < gates + gates_per_round) (sym e) times.1 in
    let up : r ≤ n = (rounds_most gates gates_per_round n h).1 enough in
    let low : gates ≤ r * gates_per_round = (rounds_most gates gates_per_round r h).0 (omega arith) in
    ⊎_elim (λ (more : r < n). absurd (omega (
      arith,
      mul-le-mul {n₁ = suc r} {m₁ = gates_per_round} {n₂ = n} {m₂ = gates_per_round} (omega arith) (omega arith),
      suc-mul r gates_per_round,
    )))
    (λ (same : n ≤ r). omega arith) (below_or_not r n)

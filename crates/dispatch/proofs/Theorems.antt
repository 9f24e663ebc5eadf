-- Proofs of the theorems of `specs/Theorems`.
-- Assumes nothing.
use mathlib.Core.Path.{◌≡◌, ◌∙◌, refl, sym, ap, subst}
use mathlib.Core.Bool.{Bool, true, false, ◌&&◌}
use mathlib.Core.Logic.{◌⊎◌, inl, inr, ⊎_elim}
use mathlib.Core.Option.{Option, none, some}
use mathlib.Core.List.{List, [], ◌∷◌, ◌++◌}
use Prim.Native.Nat.{ℕ, zero, suc, ◌+◌, ◌-◌, ◌*◌, ◌≤◌, ◌<◌, min}
use native.Mathlib.Nat.{suc-mul}
use native.Mathlib.Omega.{arith}
use lib.Dec.{T, leb}
use lib.ListN.{length, get_or, drop, replicate, length-append, length-drop, length-replicate}
use lib.Seq.{take_at, drop_at}
use borrow.Author.Tests.{leb-true, le-leb}
use Rattle.basics.specs.Lists.{all, member}
use Rattle.basics.proofs.Cases.{below_or_not}
use Rattle.basics.proofs.Flags.{and_first, and_second, and_both}
use Rattle.gates.specs.Gate.{gates_of}
use Rattle.gates.specs.Wires.{wires_of}
use Rattle.gates.specs.Board.{board_of}
use Rattle.jury.specs.Shape.{ballot_bytes}
use Rattle.jury.specs.Reason.{Reason, reason_at, unless, first_of}
use Rattle.tally.specs.Answer.{refused, accepted, outcome, has_number_in, Size, size_of}
use Rattle.tally.specs.Run.{RunResult, run_result, run_result_after, run_reason_numbers}
use Rattle.tally.specs.Hiding.{closing_bytes, RunsHide}
use Rattle.tally.proofs.Hiding.{run_answer, run_board_lem, board_tells_no_more}
use Rattle.tally.specs.Write.{write_outcome}
use Rattle.tally.specs.SaysWhoWins.{SaysWhoWins}
use Rattle.tally.specs.Memory.{Each}
use Rattle.tally.specs.Demands.{list_in}
use Rattle.tally.proofs.Numbering.{wider_number}
use Rattle.tally.proofs.TestReasons.{never}
use Rattle.tally.proofs.RunReasons.{outcome_refused, ran_by}
use Rattle.tally.proofs.Demands.{run_lengths, three_demands}
use Rattle.dispatch_rounds.specs.declared.header.JuryHeader.{JuryHeader}
use Rattle.dispatch_rounds.specs.Tables.{Tables, tables_of, header_shape, list_of, conditional_in, pieces_of, remaining, through}
use Rattle.dispatch_rounds.specs.Reasons.{reasons_of, at_jury, jury_reasons}
use Rattle.dispatch.specs.Call.{Call, juries_in}
use Rattle.dispatch.specs.Reasons.{dispatch_reasons, dispatch_reason_numbers}
use Rattle.dispatch_rounds.specs.Rounds.{eight_of, rounds_for}
use Rattle.dispatch.specs.Result.{run_board, zero_wires, DispatchResult, dispatch_result_after, dispatch_result}
use Rattle.dispatch.specs.inner.Rounds.{wire_bytes}
use Rattle.dispatch.specs.NoIdleRound.{jury_at, AllDone, NoIdleRound}
use Rattle.dispatch.specs.Theorems.{tables_from, pieces_at, run_at, RunsAt, jury, pieces, pieces_after, RoundsExact, RoundsOfCall, AcceptedJury, EachJury, FirstRefused, JuriesFit, GatesPerRoundFit, AcceptedAsAll, Refusals, DispatchMemory, Untouched, Dispatching}
use Rattle.dispatch_rounds.proofs.Pieces.{one_of, piece_fits}
use Rattle.dispatch_rounds.proofs.Passed.{Passed, jury_passed, first_accepted}
use Rattle.dispatch_rounds.proofs.MidRound.{padding}
use Rattle.dispatch.proofs.Whole.{rounds_most, result_by, bad_count, bad_per_round, by_juries, wires_start, wires_emptied, wires_room}

exact : RoundsExact
exact =
    record {
      finished = λ (gates gates_per_round r : ℕ) (h : 1 ≤ gates_per_round).
          let iff = rounds_most gates gates_per_round r h in (
            λ (p : min (r * gates_per_round) gates ≡ gates). iff.1 (omega arith),
            λ (p : rounds_for gates gates_per_round ≤ r). let q : gates ≤ r * gates_per_round = iff.0 p in omega arith,
          );
      given = λ (gates gates_per_round r : ℕ) (h : 1 ≤ gates_per_round).
          let iff = rounds_most gates gates_per_round r h in (
            λ (p : min (r * gates_per_round) gates < min (suc r * gates_per_round) gates). below gates gates_per_round r iff.0 (omega arith),
            λ (p : r < rounds_for gates gates_per_round). let q : r * gates_per_round < gates = above gates gates_per_round r iff.1 p in
                omega (arith, suc-mul r gates_per_round),
          );
    }
  where
    below : (gates gates_per_round r : ℕ) → (rounds_for gates gates_per_round ≤ r → gates ≤ r * gates_per_round) → r * gates_per_round < gates
        → r < rounds_for gates gates_per_round
    below gates gates_per_round r f p = not_most (rounds_for gates gates_per_round) r (λ q. let z : gates ≤ r * gates_per_round = f q in omega arith)
      where
        not_most : (a b : ℕ) → (a ≤ b → ⊥) → b < a
        not_most a b g = omega (arith, g)

    above : (gates gates_per_round r : ℕ) → (gates ≤ r * gates_per_round → rounds_for gates gates_per_round ≤ r) → r < rounds_for gates gates_per_round
        → r * gates_per_round < gates
    above gates gates_per_round r f p = not_most gates (r * gates_per_round) (λ q. let z : rounds_for gates gates_per_round ≤ r = f q in omega arith)
      where
        not_most : (a b : ℕ) → (a ≤ b → ⊥) → b < a
        not_most a b g = omega (arith, g)

-- a number between two others, as a test and as a fact
between : (least n most : ℕ) → (leb least n && leb n most) ≡ true → (least ≤ n) × (n ≤ most)
between least n most e = (
  leb-true least n (and_first (leb least n) (leb n most) e),
  leb-true n most (and_second (leb least n) (leb n most) e),
)

outside : (least n most : ℕ) → (leb least n && leb n most) ≡ false → ¬ ((least ≤ n) × (n ≤ most))
outside least n most e h =
    let yes = and_both (leb least n) (leb n most) (le-leb least n h.0) (le-leb n most h.1) in
    let z : ◌≡◌ {A = ℕ} 0 1 = cc in absurd (omega arith)

-- an accepted call refuses no jury
reason_is : (o : Option Reason) (c : Call) → (dispatch_result_after o c).reason ≡ o
unfolding dispatch_result_after
reason_is none c = refl
reason_is (some r) c = refl

no_reason : (c : Call) (o : Option Reason) → (dispatch_result c).reason ≡ o → first_of (dispatch_reasons c) ≡ o
unfolding dispatch_result
no_reason c o e = sym (reason_is (first_of (dispatch_reasons c)) c) ∙ e

juries_pass : (c : Call) → (dispatch_result c).reason ≡ none → first_of (jury_reasons 0 (juries_in c) c.tables) ≡ none
unfolding dispatch_reasons
juries_pass c e = go (leb 1 c.count && leb c.count 8) (leb 1 c.gates_per_round && leb c.gates_per_round 65536) (no_reason c none e)
  where
    go : (a b : Bool) → first_of (unless a 19 ∷ unless b 20 ∷ jury_reasons 0 (juries_in c) c.tables) ≡ none
        → first_of (jury_reasons 0 (juries_in c) c.tables) ≡ none
    go true true p = unfold unless first_of in p
    go true false p = unfold unless first_of in (let z : ◌≡◌ {A = ℕ} 0 1 = cc in absurd (omega arith))
    go false b p = unfold unless first_of in (let z : ◌≡◌ {A = ℕ} 0 1 = cc in absurd (omega arith))

accepted_at : (i j : ℕ) (ss : List JuryHeader) (t : Tables) → first_of (jury_reasons i ss t) ≡ none → j < length ss
    → first_of (reasons_of (jury_at j ss) (tables_from j ss t)) ≡ none
unfolding tables_from
accepted_at i j [] t e h = absurd (omega arith)
accepted_at i zero (s ∷ ss) t e h = (first_accepted i s ss t e).0
accepted_at i (suc j) (s ∷ ss) t e h = accepted_at (suc i) j ss (remaining s t) (first_accepted i s ss t e).1 (omega arith)

-- a run on the pieces of a jury that is not refused is accepted
run_accepted : (ss : List JuryHeader) (t : Tables) (j : ℕ) → first_of (reasons_of (jury_at j ss) (tables_from j ss t)) ≡ none → RunsAt j ss t
run_accepted ss t j e =
    let p = pieces_at j ss t in
    let k = (jury_passed (jury_at j ss) (tables_from j ss t) e).passed in
    run_answer (header_shape (jury_at j ss)) p.lists p.ballots p.wires p.boards p.tapes k p.tapes k.mask

number_at : (f : JuryHeader → Tables → ℕ) (rest : Tables → List ℕ) (j : ℕ) (ss : List JuryHeader) (t : Tables) → j
    < length ss → get_or (through (one_of f) rest ss t) j 0 ≡ f (jury_at j ss) (pieces_at j ss t)
unfolding through tables_from
number_at f rest j [] t h = absurd (omega arith)
number_at f rest zero (s ∷ ss) t h = refl
number_at f rest (suc j) (s ∷ ss) t h = number_at f rest j ss (remaining s t) (omega arith)

-- the length of a run's board
ran_long : (s : JuryHeader) (t : Tables) → first_of (reasons_of s t) ≡ none → length (run_board s (pieces_of s t))
    ≡ conditional_in s t + s.candidates
unfolding run_board
ran_long s t e =
    let p = pieces_of s t in
    (run_lengths (header_shape s) p.lists p.ballots p.tapes p.wires p.boards).1 ∙ (jury_passed s t e).board_long

-- jury j's piece of the boards
board_at : (i j : ℕ) (ss : List JuryHeader) (t : Tables) (w : List ℕ) → first_of (jury_reasons i ss t) ≡ none → j < length ss
    → (pieces_at j ss (tables_of t.lists t.ballots t.tapes w
    (through run_board (λ (t : Tables). t.boards) ss t))).boards ≡ run_board (jury_at j ss) (pieces_at j ss t)
unfolding through tables_from remaining conditional_in list_of
board_at i j [] t w e h = absurd (omega arith)
board_at i zero (s ∷ ss) t w e h = first_board s ss t w (first_accepted i s ss t e).0
  where
    first_board : (s : JuryHeader) (ss : List JuryHeader) (t : Tables) (w : List ℕ) → first_of (reasons_of s t) ≡ none
        → (pieces_of s (tables_of t.lists t.ballots t.tapes w
        (run_board s (pieces_of s t) ++ through run_board (λ (t : Tables). t.boards) ss (remaining s t)))).boards
        ≡ run_board s (pieces_of s t)
    first_board s ss t w a =
        unfold pieces_of conditional_in list_of in
        (let n = conditional_in s t + s.candidates in
        let b = run_board s (pieces_of s t) in
        let rest = through run_board (λ (t : Tables). t.boards) ss (remaining s t) in
        let long : length b ≡ n = ran_long s t a in
        piece_fits n (b ++ rest) (omega (arith, length-append b rest)) ∙ take_at b rest n long)
board_at i (suc j) (s ∷ ss) t w e h =
    let a = first_accepted i s ss t e in
    let n = conditional_in s t + s.candidates in
    let b = run_board s (pieces_of s t) in
    let rest = through run_board (λ (t : Tables). t.boards) ss (remaining s t) in
    let long : length b ≡ n = ran_long s t a.0 in
    let cut : drop n (b ++ rest) ≡ rest = drop_at b rest n long in
    let later = remaining s t in
    ap (λ (x : List ℕ). (pieces_at j ss
    (tables_of later.lists later.ballots later.tapes (drop (ballot_bytes (header_shape s) + s.gates) w)
    x)).boards) cut
    ∙ board_at (suc i) j ss (remaining s t) (drop (ballot_bytes (header_shape s) + s.gates) w) a.1 (omega arith)

-- the number of zeros in place of a jury's wires
zeros_long : (s : JuryHeader) (t : Tables) → first_of (reasons_of s t) ≡ none → length (zero_wires s (pieces_of s t))
    ≡ ballot_bytes (header_shape s) + s.gates
zeros_long s t e = length-replicate {A = ℕ} (length (pieces_of s t).wires) 0 ∙ (jury_passed s t e).wires_long

-- jury j's piece of the wire table
wires_at : (i j : ℕ) (ss : List JuryHeader) (t : Tables) (o : List ℕ) → first_of (jury_reasons i ss t) ≡ none → j < length ss
    → (pieces_at j ss (tables_of t.lists t.ballots t.tapes (through zero_wires (λ (t : Tables). t.wires) ss t)
    o)).wires ≡ zero_wires (jury_at j ss) (pieces_at j ss t)
unfolding through tables_from remaining conditional_in list_of
wires_at i j [] t o e h = absurd (omega arith)
wires_at i zero (s ∷ ss) t o e h = first_wires s ss t o (first_accepted i s ss t e).0
  where
    first_wires : (s : JuryHeader) (ss : List JuryHeader) (t : Tables) (o : List ℕ) → first_of (reasons_of s t) ≡ none
        → (pieces_of s (tables_of t.lists t.ballots t.tapes
        (zero_wires s (pieces_of s t) ++ through zero_wires (λ (t : Tables). t.wires) ss (remaining s t)) o)).wires
        ≡ zero_wires s (pieces_of s t)
    first_wires s ss t o a =
        unfold pieces_of in
        (let n = ballot_bytes (header_shape s) + s.gates in
        let z = zero_wires s (pieces_of s t) in
        let rest = through zero_wires (λ (t : Tables). t.wires) ss (remaining s t) in
        let long : length z ≡ n = zeros_long s t a in
        piece_fits n (z ++ rest) (omega (arith, length-append z rest)) ∙ take_at z rest n long)
wires_at i (suc j) (s ∷ ss) t o e h =
    let a = first_accepted i s ss t e in
    let n = ballot_bytes (header_shape s) + s.gates in
    let later = remaining s t in
    let rest = through zero_wires (λ (t : Tables). t.wires) ss (remaining s t) in
    let cut : drop n (zero_wires s (pieces_of s t) ++ rest) ≡ rest = drop_at (zero_wires s (pieces_of s t)) rest n (zeros_long s t a.0) in
    let left = drop (conditional_in s t + s.candidates) o in
    ap (λ (x : List ℕ). (pieces_at j ss (tables_of later.lists later.ballots later.tapes x left)).wires) cut
    ∙ wires_at (suc i) j ss (remaining s t) left a.1 (omega arith)

-- what follows the pieces of all juries
wires_behind : (i : ℕ) (ss : List JuryHeader) (t : Tables) (o : List ℕ) → first_of (jury_reasons i ss t) ≡ none
    → (tables_from (length ss) ss (tables_of t.lists t.ballots t.tapes
    (through zero_wires (λ (t : Tables). t.wires) ss t) o)).wires ≡ (tables_from (length ss) ss t).wires
unfolding through tables_from remaining conditional_in list_of
wires_behind i [] t o e = refl
wires_behind i (s ∷ ss) t o e =
    let a = first_accepted i s ss t e in
    let n = ballot_bytes (header_shape s) + s.gates in
    let later = remaining s t in
    let rest = through zero_wires (λ (t : Tables). t.wires) ss (remaining s t) in
    let cut : drop n (zero_wires s (pieces_of s t) ++ rest) ≡ rest = drop_at (zero_wires s (pieces_of s t)) rest n (zeros_long s t a.0) in
    let left = drop (conditional_in s t + s.candidates) o in
    ap (λ (x : List ℕ). (tables_from (length ss) ss (tables_of later.lists later.ballots later.tapes x left)).wires) cut
    ∙ wires_behind (suc i) ss (remaining s t) left a.1

boards_behind : (i : ℕ) (ss : List JuryHeader) (t : Tables) (w : List ℕ) → first_of (jury_reasons i ss t) ≡ none
    → (tables_from (length ss) ss (tables_of t.lists t.ballots t.tapes w
    (through run_board (λ (t : Tables). t.boards) ss t))).boards ≡ (tables_from (length ss) ss t).boards
unfolding through tables_from remaining conditional_in list_of
boards_behind i [] t w e = refl
boards_behind i (s ∷ ss) t w e =
    let a = first_accepted i s ss t e in
    let n = conditional_in s t + s.candidates in
    let later = remaining s t in
    let rest = through run_board (λ (t : Tables). t.boards) ss (remaining s t) in
    let cut : drop n (run_board s (pieces_of s t) ++ rest) ≡ rest = drop_at (run_board s (pieces_of s t)) rest n (ran_long s t a.0) in
    let left = drop (ballot_bytes (header_shape s) + s.gates) w in
    ap (λ (x : List ℕ). (tables_from (length ss) ss (tables_of later.lists later.ballots later.tapes left x)).boards) cut
    ∙ boards_behind (suc i) ss (remaining s t) left a.1

module _ (c : Call) (j : ℕ) (e : (dispatch_result c).reason ≡ none) (h : j < length (juries_in c)) where
  accepts : first_of (reasons_of (jury_at j (juries_in c)) (tables_from j (juries_in c) c.tables)) ≡ none
  accepts = accepted_at 0 j (juries_in c) c.tables (juries_pass c e) h

  passed : Passed (jury_at j (juries_in c)) (tables_from j (juries_in c) c.tables)
  passed = jury_passed (jury_at j (juries_in c)) (tables_from j (juries_in c) c.tables) accepts

  is_after : dispatch_result c ≡ dispatch_result_after none c
  is_after = result_by c none (no_reason c none e)

  pub each_jury : EachJury c j
  unfolding dispatch_result_after eight_of
  each_jury =
      let qs = juries_in c in
      let t = c.tables in
      record {
        rounds =
            ap (λ (r : DispatchResult). get_or r.rounds j 0) is_after
            ∙ number_at (λ (s : JuryHeader) (p : Tables). rounds_for s.gates c.gates_per_round) (padding qs) j qs t h;
        runs = run_accepted qs t j accepts;
        emptied =
            ap (λ (r : DispatchResult). (pieces_at j qs
            (tables_of t.lists t.ballots t.tapes r.wires (dispatch_result c).boards)).wires) is_after
            ∙ wires_at 0 j qs t (dispatch_result c).boards (juries_pass c e) h;
        board =
            ap (λ (r : DispatchResult). (pieces_at j qs
            (tables_of t.lists t.ballots t.tapes (dispatch_result c).wires r.boards)).boards) is_after
            ∙ board_at 0 j qs t (dispatch_result c).wires (juries_pass c e) h;
      }

  board_by : run_board (jury_at j (juries_in c)) (pieces_at j (juries_in c) c.tables)
      ≡ board_of (wires_of (pieces_at j (juries_in c) c.tables).ballots
      (gates_of (pieces_at j (juries_in c) c.tables).lists)) (gates_of (pieces_at j (juries_in c) c.tables).lists)
      (jury_at j (juries_in c)).candidates (pieces_at j (juries_in c) c.tables).tapes
  unfolding run_board
  board_by =
      let s = jury_at j (juries_in c) in
      let p = pieces_at j (juries_in c) c.tables in
      run_board_lem (header_shape s) p.lists p.ballots p.wires p.boards p.tapes passed.passed p.tapes passed.passed.mask

same_board : (l l' b b' m m' : List ℕ) (k k' : ℕ) → l ≡ l' → b ≡ b' → m ≡ m' → k ≡ k'
    → board_of (wires_of b (gates_of l)) (gates_of l) k m ≡ board_of (wires_of b' (gates_of l')) (gates_of l') k' m'
same_board l l' b b' m m' k k' e₀ e₁ e₂ e₃ = rw (e₀, e₁, e₂, e₃)

-- the boards of all juries are as long as what was lent
all_boards : (i : ℕ) (ss : List JuryHeader) (t : Tables) → first_of (jury_reasons i ss t) ≡ none
    → length (through run_board (λ (t : Tables). t.boards) ss t) ≡ length t.boards
unfolding through remaining
all_boards i [] t e = refl
all_boards i (s ∷ ss) t e =
    let a = first_accepted i s ss t e in
    let n = conditional_in s t + s.candidates in
    let b = run_board s (pieces_of s t) in
    omega (
      arith,
      length-append b (through run_board (λ (t : Tables). t.boards) ss (remaining s t)),
      ran_long s t a.0,
      all_boards (suc i) ss (remaining s t) a.1,
      length-drop n t.boards,
      (jury_passed s t a.0).in_boards,
    )

-- the first bad jury; the first jury here is jury i
record Found (i : ℕ) (ss : List JuryHeader) (t : Tables) (r : Reason) : Type 0 where
  pub which : ℕ
  pub its : Reason
  pub among : which < length ss
  pub named : r ≡ reason_at its.number (i + which)
  pub before : (j : ℕ) → j < which → first_of (reasons_of (jury_at j ss) (tables_from j ss t)) ≡ none
  pub bad : first_of (reasons_of (jury_at which ss) (tables_from which ss t)) ≡ some its

found_at : (i : ℕ) (ss : List JuryHeader) (t : Tables) (r : Reason) → first_of (jury_reasons i ss t) ≡ some r → Found i ss t r
unfolding jury_reasons
found_at i [] t r e = unfold first_of in (let z : ◌≡◌ {A = ℕ} 0 1 = cc in absurd (omega arith))
found_at i (s ∷ ss) t r e = go (first_of (reasons_of s t)) refl (λ h. found_at (suc i) ss (remaining s t) r h) e
  where
    good : first_of (reasons_of s t) ≡ none → (f : Found (suc i) ss (remaining s t) r) (j : ℕ) → j < suc f.which
        → first_of (reasons_of (jury_at j (s ∷ ss)) (tables_from j (s ∷ ss) t)) ≡ none
    good p f zero h = unfold tables_from in p
    good p f (suc j) h = unfold tables_from in (f.before j (omega arith))

    later : first_of (reasons_of s t) ≡ none → Found (suc i) ss (remaining s t) r → Found i (s ∷ ss) t r
    later p f =
        record {
          which = suc f.which;
          its = f.its;
          among = omega (arith, f.among);
          named = f.named ∙ ap (reason_at f.its.number) {x = suc i + f.which} {y = i + suc f.which} (omega arith);
          before = good p f;
          bad = unfold tables_from in f.bad;
        }

    go : (o : Option Reason) → first_of (reasons_of s t) ≡ o
        → (first_of (jury_reasons (suc i) ss (remaining s t)) ≡ some r → Found (suc i) ss (remaining s t) r)
        → first_of (at_jury i o ∷ jury_reasons (suc i) ss (remaining s t)) ≡ some r → Found i (s ∷ ss) t r
    go none p rest f = unfold at_jury first_of in (later p (rest f))
    go (some q) p rest f =
        unfold at_jury first_of tables_from in
        (let same : reason_at q.number i ≡ r = cc in
        record {
          which = 0;
          its = q;
          among = omega arith;
          named = sym same ∙ ap (reason_at q.number) {x = i} {y = i + 0} (omega arith);
          before = λ (j : ℕ) (h : j < 0). absurd (omega arith);
          bad = p;
        })

-- a call that is refused
module _ (c : Call) (r : Reason) (e : (dispatch_result c).reason ≡ some r) where
  is_refused : dispatch_result c ≡ dispatch_result_after (some r) c
  is_refused = result_by c (some r) (no_reason c (some r) e)

  no_rounds : (dispatch_result c).rounds ≡ replicate 8 0
  no_rounds = unfold dispatch_result_after in (ap (λ (x : DispatchResult). x.rounds) is_refused)

  same_wires : (dispatch_result c).wires ≡ c.tables.wires
  same_wires = unfold dispatch_result_after in (ap (λ (x : DispatchResult). x.wires) is_refused)

  same_boards : (dispatch_result c).boards ≡ c.tables.boards
  same_boards = unfold dispatch_result_after in (ap (λ (x : DispatchResult). x.boards) is_refused)

refusals : Refusals
refusals =
    record {
      named = λ (c : Call) (r : Reason) e.
          name c r (leb 1 c.count && leb c.count 8) (leb 1 c.gates_per_round && leb c.gates_per_round 65536) refl refl
          (no_reason c (some r) e);
      no_rounds = no_rounds;
    }
  where
    same_reason : (r q : Reason) → some r ≡ some q → r ≡ q
    same_reason r q e = cc

    -- a jury's refusal is that of a run on its pieces
    of_run : (qs : List JuryHeader) (t : Tables) (r : Reason) → Found 0 qs t r → FirstRefused qs t r
    of_run qs t r f =
        let k = f.which in
        let q = f.its in
        let p = pieces_at k qs t in
        let s = jury_at k qs in
        let outcome : (run_at k qs t).answer ≡ refused q =
        unfold run_result_after reasons_of in
        (ap (λ (x : RunResult). x.answer)
        (ran_by (header_shape s) p.lists p.ballots p.tapes p.wires p.boards (some q) f.bad)) in
        let place : r.place ≡ 0 + k = unfold reason_at in (ap (λ (x : Reason). x.place) f.named) in
        let here : k ≡ r.place = omega arith in
        record {
          among = omega (arith, f.among);
          before = λ (j : ℕ) (h : j < r.place). run_accepted qs t j (f.before j (omega arith));
          its = q;
          number = unfold reason_at in (ap (λ (x : Reason). x.number) f.named);
          run = subst (λ (i : ℕ). (run_at i qs t).answer ≡ refused q) here outcome;
        }

    name : (c : Call) (r : Reason) (a b : Bool) → (leb 1 c.count && leb c.count 8) ≡ a
        → (leb 1 c.gates_per_round && leb c.gates_per_round 65536) ≡ b → first_of (dispatch_reasons c) ≡ some r
        → ((¬ JuriesFit c) × (r ≡ reason_at 19 0)) ⊎ (JuriesFit c × (¬ GatesPerRoundFit c) × (r ≡ reason_at 20 0))
        ⊎ (JuriesFit c × GatesPerRoundFit c × FirstRefused (juries_in c) c.tables r)
    name c r false b p q e = inl (outside 1 c.count 8 p, same_reason r (reason_at 19 0) (sym e ∙ bad_count c p))
    name c r true false p q e =
        inr (inl (between 1 c.count 8 p, outside 1 c.gates_per_round 65536 q, same_reason r (reason_at 20 0) (sym e ∙ bad_per_round c p q)))
    name c r true true p q e =
        inr (inr (
          between 1 c.count 8 p,
          between 1 c.gates_per_round 65536 q,
          of_run (juries_in c) c.tables r (found_at 0 (juries_in c) c.tables r (sym (by_juries c p q) ∙ e)),
        ))

-- a call is accepted if all its juries are
accepted_as_all : AcceptedAsAll
accepted_as_all c = (
  λ e. let f = limits (leb 1 c.count && leb c.count 8) (leb 1 c.gates_per_round && leb c.gates_per_round 65536) refl
      refl (no_reason c none e) in
      (f.0, f.1, λ (j : ℕ) h. run_accepted (juries_in c) c.tables j (accepted_at 0 j (juries_in c) c.tables (juries_pass c e) h)),
  λ h. back (dispatch_result c).reason refl h,
)
  where
    limits : (a b : Bool) → (leb 1 c.count && leb c.count 8) ≡ a → (leb 1 c.gates_per_round && leb c.gates_per_round 65536) ≡ b
        → first_of (dispatch_reasons c) ≡ none → JuriesFit c × GatesPerRoundFit c
    limits false b p q e = let f = sym (bad_count c p) ∙ e in let z : ◌≡◌ {A = ℕ} 0 1 = cc in absurd (omega arith)
    limits true false p q e = let f = sym (bad_per_round c p q) ∙ e in let z : ◌≡◌ {A = ℕ} 0 1 = cc in absurd (omega arith)
    limits true true p q e = (between 1 c.count 8 p, between 1 c.gates_per_round 65536 q)

    back : (o : Option Reason) → (dispatch_result c).reason ≡ o
        → JuriesFit c × GatesPerRoundFit c × ((j : ℕ) → j < length (juries_in c) → RunsAt j (juries_in c) c.tables)
        → (dispatch_result c).reason ≡ none
    back none e h = e
    back (some r) e h =
        ⊎_elim (λ x. absurd (x.0 h.0))
        (⊎_elim (λ x. absurd (x.1 h.1))
        (λ x. never (size_of (gates_of (pieces_at r.place (juries_in c) c.tables).lists)) x.2.its
        (sym x.2.run ∙ h.2 r.place x.2.among)))
        (refusals.named c r e)

-- the place of the largest of n + 1 numbers
largest_at : (n : ℕ) (g : ℕ → ℕ) → (j : ℕ) × (j < suc n) × ((i : ℕ) → i < suc n → g i ≤ g j)
largest_at zero g = (0, omega arith, λ (i : ℕ) h. let e : i ≡ 0 = omega arith in subst (λ (k : ℕ). g k ≤ g 0) (sym e) (omega arith))
largest_at (suc n) g = go (largest_at n g)
  where
    last : (m i : ℕ) → i < suc (suc n) → ((k : ℕ) → k < suc n → g k ≤ m) → g (suc n) ≤ m → g i ≤ m
    last m i h before at =
        ⊎_elim (λ (l : i < suc n). before i l)
        (λ (l : suc n ≤ i). let e : i ≡ suc n = omega arith in subst (λ (k : ℕ). g k ≤ m) (sym e) at) (below_or_not i (suc n))

    go : (j : ℕ) × (j < suc n) × ((i : ℕ) → i < suc n → g i ≤ g j) → (j : ℕ) × (j < suc (suc n)) × ((i : ℕ) → i < suc (suc n) → g i ≤ g j)
    go b =
        ⊎_elim (λ (l : g b.0 < g (suc n)). (
          suc n,
          omega arith,
          λ (i : ℕ) h. last (g (suc n)) i h (λ (k : ℕ) m. omega (arith, b.2 k m))
              (omega arith),
        ))
        (λ (l : g (suc n) ≤ g b.0). (b.0, omega (arith, b.1), λ (i : ℕ) h. last (g b.0) i h b.2 l))
        (below_or_not (g b.0) (g (suc n)))

-- the rounds of the jury that takes the most rounds
module _ (c : Call) (j : ℕ) (a : AcceptedJury c j) where
  abbrev its : ℕ → ℕ
  its i = get_or (dispatch_result c).rounds i 0

  least : 1 ≤ c.gates_per_round
  least = ((accepted_as_all c).0 a.accepts).1.0

  found : (i : ℕ) × (i < suc (length (juries_in c) - 1)) × ((k : ℕ) → k < suc (length (juries_in c) - 1) → its k ≤ its i)
  found = largest_at (length (juries_in c) - 1) its

  longest_among : found.0 < length (juries_in c)
  longest_among = omega (arith, found.1, a.among)

  takes : (i : ℕ) → i < length (juries_in c) → its i ≡ rounds_for (jury c i).gates c.gates_per_round
  takes i h = (each_jury c i a.accepts h).rounds

  most : (i : ℕ) → i < length (juries_in c) → its i ≤ its found.0
  most i h = found.2 i (omega (arith, h))

  all_done : AllDone c.gates_per_round (its found.0) (juries_in c)
  all_done i h = (rounds_most (jury c i).gates c.gates_per_round (its found.0) least).0 (omega (arith, takes i h, most i h))

  none_idle : NoIdleRound c.gates_per_round (its found.0) (juries_in c)
  none_idle r h = (
    found.0,
    longest_among,
    (exact.given (jury c found.0).gates c.gates_per_round r least).1
        (omega (arith, h, takes found.0 longest_among)),
  )

  no_other : (n : ℕ) → AllDone c.gates_per_round n (juries_in c) → NoIdleRound c.gates_per_round n (juries_in c) → n ≡ its found.0
  no_other n done idle =
      ⊎_elim
      (λ (l : n < its found.0).
      let few = (rounds_most (jury c found.0).gates c.gates_per_round n least).1 (done found.0 longest_among) in
      absurd (omega (arith, l, few, takes found.0 longest_among)))
      (λ (l : its found.0 ≤ n).
      ⊎_elim (λ (k : its found.0 < n). let g = idle (its found.0) k in absurd (omega (arith, g.2, all_done g.0 g.1)))
      (λ (k : n ≤ its found.0). omega (arith, l, k)) (below_or_not (its found.0) n))
      (below_or_not n (its found.0))

  rounds_of_call : RoundsOfCall c
  rounds_of_call =
      record { longest = found.0; among = longest_among; most = most; all_done = all_done; none_idle = none_idle; no_other = no_other }

-- no length changes
lengths : (c : Call) → (length (dispatch_result c).wires ≡ length c.tables.wires)
    × (length (dispatch_result c).boards ≡ length c.tables.boards)
lengths c = by (first_of (dispatch_reasons c)) refl
  where
    wires_long : (i : ℕ) (ss : List JuryHeader) (t : Tables) → first_of (jury_reasons i ss t) ≡ none
        → length (through zero_wires (λ (t : Tables). t.wires) ss t) ≡ length t.wires
    wires_long i ss t e =
        sym (ap length (wires_emptied 0 i ss t e))
        ∙ ap (λ (x : List ℕ). length (replicate (wire_bytes ss) 0 ++ drop (wire_bytes ss) x)) (wires_start i ss t e)
        ∙ joined (wire_bytes ss) t.wires (room i ss t e)
      where
        room : (i : ℕ) (ss : List JuryHeader) (t : Tables) → first_of (jury_reasons i ss t) ≡ none → wire_bytes ss ≤ length t.wires
        room i ss t e = omega (arith, wires_room 0 i ss t e, ap length (wires_start i ss t e))

        joined : (n : ℕ) (xs : List ℕ) → n ≤ length xs → length (replicate n 0 ++ drop n xs) ≡ length xs
        joined n xs h = omega (arith, length-append (replicate n 0) (drop n xs), length-replicate {A = ℕ} n 0, length-drop n xs)

    by : (o : Option Reason) → first_of (dispatch_reasons c) ≡ o
        → (length (dispatch_result c).wires ≡ length c.tables.wires) × (length (dispatch_result c).boards ≡ length c.tables.boards)
    by (some r) e =
        let q = result_by c (some r) e in
        unfold dispatch_result_after in (ap (λ (d : DispatchResult). length d.wires) q, ap (λ (d : DispatchResult). length d.boards) q)
    by none e =
        let q = result_by c none e in
        let pass = juries_pass c (unfold dispatch_result_after in (ap (λ (d : DispatchResult). d.reason) q)) in
        unfold dispatch_result_after in (
          ap (λ (d : DispatchResult). length d.wires) q ∙ wires_long 0 (juries_in c) c.tables pass,
          ap (λ (d : DispatchResult). length d.boards) q ∙ all_boards 0 (juries_in c) c.tables pass,
        )

number : (c : Call) (r : Reason) → (dispatch_result c).reason ≡ some r → T (has_number_in dispatch_reason_numbers r)
unfolding all member reason_at
number c r e = ⊎_elim (λ x. own 19 tt x.1) (⊎_elim (λ x. own 20 tt x.2) (λ x. of_jury x.2)) (refusals.named c r e)
  where
    own : (n : ℕ) → T (has_number_in dispatch_reason_numbers (reason_at n 0)) → r ≡ reason_at n 0 → T (has_number_in dispatch_reason_numbers r)
    own n h q = subst (λ (x : Reason). T (has_number_in dispatch_reason_numbers x)) (sym q) h

    of_jury : FirstRefused (juries_in c) c.tables r → T (has_number_in dispatch_reason_numbers r)
    of_jury f =
        wider_number run_reason_numbers dispatch_reason_numbers tt r f.its f.number
        ((three_demands.memory.run _ _ _ _ _ _).number f.its f.run)

memory : (c : Call) → DispatchMemory c
unfolding Each
memory c =
    record {
      number = λ r e. number c r (reason r e);
      refusal = λ r e. (same_wires c r (reason r e), (same_boards c r (reason r e), tt));
      empties = λ rounds e. tt;
      lengths = ((lengths c).0, ((lengths c).1, tt));
    }
  where
    reason : (r : Reason) → outcome (dispatch_result c).reason (dispatch_result c).rounds ≡ refused r → (dispatch_result c).reason ≡ some r
    reason r e = outcome_refused (dispatch_result c).reason (dispatch_result c).rounds r e

-- what follows all pieces after a call that leaves d
abbrev left : List JuryHeader → Tables → DispatchResult → Tables
left qs t d = tables_from (length qs) qs (tables_of t.lists t.ballots t.tapes d.wires d.boards)

-- nothing that follows the pieces changes
untouched : (c : Call) → Untouched c
untouched c = by (first_of (dispatch_reasons c)) refl
  where
    by : (o : Option Reason) → first_of (dispatch_reasons c) ≡ o → Untouched c
    by (some r) e =
        let q = result_by c (some r) e in
        unfold dispatch_result_after in
        (record {
          wires = ap (λ (d : DispatchResult). (left (juries_in c) c.tables d).wires) q;
          boards = ap (λ (d : DispatchResult). (left (juries_in c) c.tables d).boards) q;
        })
    by none e =
        let q = result_by c none e in
        let qs = juries_in c in
        let t = c.tables in
        let pass = juries_pass c (unfold dispatch_result_after in (ap (λ (d : DispatchResult). d.reason) q)) in
        unfold dispatch_result_after in
        (record {
          wires = ap (λ (d : DispatchResult). (left qs t d).wires) q
              ∙ wires_behind 0 qs t (through run_board (λ (t : Tables). t.boards) qs t) pass;
          boards = ap (λ (d : DispatchResult). (left qs t d).boards) q
              ∙ boards_behind 0 qs t (through zero_wires (λ (t : Tables). t.wires) qs t) pass;
        })

-- demand 3 for two juries, from their runs
hidden : (s s' : JuryHeader) (p q : Tables) (x y : List ℕ)
    → (run_result (header_shape s) p.lists p.ballots p.tapes p.wires p.boards).answer ≡ accepted (size_of (gates_of p.lists))
    → (run_result (header_shape s') q.lists q.ballots q.tapes q.wires q.boards).answer ≡ accepted (size_of (gates_of q.lists))
    → x ≡ run_board s p → y ≡ run_board s' q → s ≡ s' → p.lists ≡ q.lists → closing_bytes (header_shape s) x ≡ closing_bytes (header_shape s) y
    → RunsHide (header_shape s) p.lists p.ballots q.ballots p.wires q.wires p.boards q.boards
unfolding run_board
hidden s s' p q x y runs runs' e f st list closing =
    let first : (run_result (header_shape s) p.lists q.ballots q.tapes q.wires q.boards).answer
    ≡ accepted (size_of (gates_of p.lists)) =
    subst (λ (z : JuryHeader). (run_result (header_shape z) p.lists q.ballots q.tapes q.wires
    q.boards).answer ≡ accepted (size_of (gates_of p.lists))) (sym st)
    (subst (λ (l : List ℕ). (run_result (header_shape s') l q.ballots q.tapes q.wires q.boards).answer
    ≡ accepted (size_of (gates_of l))) (sym list) runs') in
    let same : y ≡ (run_result (header_shape s) p.lists q.ballots q.tapes q.wires q.boards).board =
    f ∙ ap (λ (l : List ℕ). (run_result (header_shape s') l q.ballots q.tapes q.wires q.boards).board) (sym list)
    ∙ ap (λ (z : JuryHeader). (run_result (header_shape z) p.lists q.ballots q.tapes q.wires q.boards).board) (sym st) in
    let ends : closing_bytes (header_shape s) (run_result (header_shape s) p.lists p.ballots p.tapes p.wires p.boards).board
    ≡ closing_bytes (header_shape s) (run_result (header_shape s) p.lists q.ballots q.tapes q.wires q.boards).board =
    sym (ap (closing_bytes (header_shape s)) e) ∙ closing ∙ ap (closing_bytes (header_shape s)) same in
    (board_tells_no_more (header_shape s) p.lists p.ballots q.ballots p.tapes q.tapes p.wires q.wires
    p.boards q.boards _ _ runs first ends).2

-- demand 2 for a jury, from its run
accuracy : (c : Call) (j : ℕ) (table : List ℕ) (size : Size) → EachJury c j
    → write_outcome (header_shape (jury c j)) table ≡ accepted size
    → (pieces c j).lists ≡ list_in (header_shape (jury c j)) size table
    → let s = header_shape (jury c j) in SaysWhoWins s (pieces c j).ballots (closing_bytes s (pieces_after c j).boards)
unfolding run_board
accuracy c j table size each wrote own =
    let s = header_shape (jury c j) in
    let p = pieces c j in
    let h = subst (λ (l : List ℕ). (run_result s l p.ballots p.tapes p.wires p.boards).answer
    ≡ accepted (size_of (gates_of p.lists))) own each.runs in
    let b = each.board ∙ ap (λ (l : List ℕ). (run_result s l p.ballots p.tapes p.wires p.boards).board) own in
    subst (λ (l : List ℕ). SaysWhoWins s p.ballots (closing_bytes s l)) (sym b)
    ((three_demands.accuracy s table size wrote).says_who_wins p.ballots p.tapes p.wires p.boards _ h)

pub dispatching : Dispatching
dispatching =
    record {
      exact = exact;
      rounds = rounds_of_call;
      memory = memory;
      untouched = untouched;
      accepted_as_all = accepted_as_all;
      refusals = refusals;
      each = each;
      same = λ (c c' : Call) (j i : ℕ) a a' inputs.
          let x = each c j a in
          let y = each c' i a' in
          record {
            board =
                x.board ∙ board_by c j a.accepts a.among
                ∙ same_board _ _ _ _ _ _ _ _ inputs.list inputs.ballots inputs.tape
                (ap (λ (z : JuryHeader). z.candidates) inputs.header)
                ∙ sym (y.board ∙ board_by c' i a'.accepts a'.among);
            rounds = λ (same : c.gates_per_round ≡ c'.gates_per_round).
                x.rounds ∙ ap (λ (z : JuryHeader). rounds_for z.gates c.gates_per_round) inputs.header
                ∙ ap (rounds_for (jury c' i).gates) same ∙ sym y.rounds;
          };
      accuracy = λ (c : Call) (j : ℕ) table size a wrote own. accuracy c j table size (each c j a) wrote own;
      hiding = λ (c c' : Call) (j i : ℕ) a a' header list closing.
          let x = each c j a in
          let y = each c' i a' in
          hidden (jury c j) (jury c' i) (pieces c j) (pieces c' i) _ _ x.runs y.runs x.board y.board header list closing;
    }
  where
    each : (c : Call) (j : ℕ) → AcceptedJury c j → EachJury c j
    each c j a = each_jury c j a.accepts a.among

-- What holds for a jury that is not refused: its pieces fit.
-- Assumes nothing.
use mathlib.Core.Path.{◌≡◌, refl, ap}
use mathlib.Core.Option.{Option, none, some}
use mathlib.Core.List.{List, ◌∷◌}
use Prim.Native.Nat.{ℕ, suc, ◌+◌, ◌*◌, ◌≤◌}
use native.Mathlib.Omega.{arith}
use lib.Dec.{T}
use lib.ListN.{length, take}
use lib.Seq.{length-take-le}
use Rattle.gates.specs.Gate.{gates_of}
use Rattle.gates.specs.Board.{conditional_count}
use Rattle.gates.specs.inner.Step.{RunReady}
use Rattle.gates.proofs.Table.{length_gates}
use Rattle.gates.proofs.Evaluating.{accepted_list}
use Rattle.jury.specs.Shape.{within_limits, ballot_bytes}
use Rattle.jury.specs.Reason.{Reason, first_of}
use Rattle.jury.proofs.Limits.{bounds}
use Rattle.basics.proofs.Flags.{true_T}
use Rattle.tally.specs.Answer.{size_of}
use Rattle.tally.proofs.RunReasons.{RunPassed, run_passed, run_ready}
use Rattle.dispatch_rounds.specs.declared.header.JuryHeader.{JuryHeader}
use Rattle.dispatch_rounds.specs.Tables.{Tables, header_shape, piece_of, list_of, conditional_in, pieces_of, remaining}
use Rattle.dispatch_rounds.specs.Reasons.{reasons_of, at_jury, jury_reasons}
use Rattle.dispatch_rounds.proofs.Pieces.{piece_fits, full_fits, some_fits}

-- if no jury is refused, the first is not, and none after it is
pub first_accepted : (j : ℕ) (s : JuryHeader) (ss : List JuryHeader) (t : Tables) → first_of (jury_reasons j (s ∷ ss) t) ≡ none
    → (first_of (reasons_of s t) ≡ none) × (first_of (jury_reasons (suc j) ss (remaining s t)) ≡ none)
unfolding jury_reasons
first_accepted j s ss t e = go (first_of (reasons_of s t)) refl e
  where
    go : (o : Option Reason) → first_of (reasons_of s t) ≡ o → first_of (at_jury j o ∷ jury_reasons (suc j) ss (remaining s t)) ≡ none
        → (first_of (reasons_of s t) ≡ none) × (first_of (jury_reasons (suc j) ss (remaining s t)) ≡ none)
    go none p q = unfold at_jury first_of in (p, q)
    go (some r) p q = unfold at_jury first_of in (let z : ◌≡◌ {A = ℕ} 0 1 = cc in absurd (omega arith))

pub record Passed (s : JuryHeader) (t : Tables) : Type 0 where
  pub passed : RunPassed (header_shape s) (pieces_of s t).lists (pieces_of s t).ballots (pieces_of s t).tapes
      (pieces_of s t).wires (pieces_of s t).boards
  pub run : RunReady (pieces_of s t).ballots (pieces_of s t).lists s.candidates (pieces_of s t).tapes
      (pieces_of s t).wires (pieces_of s t).boards
  pub is_within : T (within_limits (header_shape s))
  pub some_gate : 1 ≤ s.gates
  pub few_gates : s.gates ≤ 1048576
  pub gates : length (gates_of (pieces_of s t).lists) ≡ s.gates
  pub in_lists : 4 * s.gates ≤ length t.lists
  pub in_ballots : ballot_bytes (header_shape s) ≤ length t.ballots
  pub in_tapes : conditional_in s t ≤ length t.tapes
  pub in_wires : ballot_bytes (header_shape s) + s.gates ≤ length t.wires
  pub in_boards : conditional_in s t + s.candidates ≤ length t.boards
  pub list_is : (pieces_of s t).lists ≡ take (4 * s.gates) t.lists
  pub ballots_are : (pieces_of s t).ballots ≡ take (ballot_bytes (header_shape s)) t.ballots
  pub tape_is : (pieces_of s t).tapes ≡ take (conditional_in s t) t.tapes
  pub wires_are : (pieces_of s t).wires ≡ take (ballot_bytes (header_shape s) + s.gates) t.wires
  pub board_is : (pieces_of s t).boards ≡ take (conditional_in s t + s.candidates) t.boards
  pub ballots_long : length (pieces_of s t).ballots ≡ ballot_bytes (header_shape s)
  pub wires_long : length (pieces_of s t).wires ≡ ballot_bytes (header_shape s) + s.gates
  pub board_long : length (pieces_of s t).boards ≡ conditional_in s t + s.candidates
  pub marked : conditional_count (gates_of (pieces_of s t).lists) ≡ conditional_in s t

-- a list that is not empty fits, and has as many gates as its header says
pub list_fits : (s : JuryHeader) (t : Tables) → 1 ≤ length (gates_of (list_of s t))
    → (4 * s.gates ≤ length t.lists) × (length (gates_of (list_of s t)) ≡ s.gates)
unfolding list_of
list_fits s t h =
    let n = 4 * s.gates in
    let room : n ≤ length t.lists = some_fits n t.lists (omega (arith, length_gates (piece_of n t.lists))) in (
      room,
      omega (arith, length_gates (piece_of n t.lists), ap length (piece_fits n t.lists room), length-take-le n t.lists room),
    )

pub jury_passed : (s : JuryHeader) (t : Tables) → first_of (reasons_of s t) ≡ none → Passed s t
unfolding reasons_of pieces_of conditional_in
jury_passed s t e =
    let p = pieces_of s t in
    let k = run_passed (header_shape s) p.lists p.ballots p.tapes p.wires p.boards e in
    let size = size_of (gates_of p.lists) in
    let list = accepted_list (ballot_bytes (header_shape s)) s.candidates p.lists size.gates size.conditional k.test.tests in
    let limits = bounds (header_shape s) k.test.within in
    let some : 1 ≤ length (gates_of (list_of s t)) = omega (arith, list.enough, limits.k_least) in
    let fits = list_fits s t some in
    let i = ballot_bytes (header_shape s) in
    let c = conditional_in s t in
    let wires : length (piece_of (i + s.gates) t.wires) ≡ i + s.gates = omega (arith, k.wires_length, fits.1) in
    let in_ballots : i ≤ length t.ballots = full_fits i t.ballots k.ballots_passed.size in
    let in_tapes : c ≤ length t.tapes = full_fits c t.tapes k.mask.size in
    let in_wires : i + s.gates ≤ length t.wires = full_fits (i + s.gates) t.wires wires in
    let in_boards : c + s.candidates ≤ length t.boards = full_fits (c + s.candidates) t.boards k.board_length in
    record {
      passed = k;
      run = run_ready (header_shape s) p.lists p.ballots p.tapes p.wires p.boards k;
      is_within = true_T (within_limits (header_shape s)) k.test.within;
      some_gate = omega (arith, fits.1);
      few_gates = omega (arith, list.few, fits.1);
      gates = fits.1;
      in_lists = fits.0;
      in_ballots = in_ballots;
      in_tapes = in_tapes;
      in_wires = in_wires;
      in_boards = in_boards;
      list_is = unfold list_of in (piece_fits (4 * s.gates) t.lists fits.0);
      ballots_are = piece_fits i t.ballots in_ballots;
      tape_is = piece_fits c t.tapes in_tapes;
      wires_are = piece_fits (i + s.gates) t.wires in_wires;
      board_is = piece_fits (c + s.candidates) t.boards in_boards;
      ballots_long = k.ballots_passed.size;
      wires_long = wires;
      board_long = k.board_length;
      marked = refl;
    }

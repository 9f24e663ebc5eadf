-- The buffers are long enough for every list that fits the table, and the run's answer is the rehearsal's.
-- Assumes nothing.
use Rattle.std.specs.Prelude.{Ok, Err}
use Rattle.std.specs.Prelude as prelude
use Rattle.std.specs.List.{PartBy}
use denote.Ref.{Bor}
use mathlib.Core.Logic.{⊎_elim}
use mathlib.Core.Path.{◌≡◌, ◌∙◌, refl, sym, ap}
use mathlib.Core.Bool.{false}
use mathlib.Core.Option.{Option, none}
use mathlib.Core.List.{List, [], ◌++◌}
use Prim.Native.Nat.{ℕ, ◌+◌, ◌-◌, ◌*◌, ◌≤◌, ◌<◌}
use native.Mathlib.Omega.{arith}
use lib.ListN.{length, take, drop, length-take, length-drop, length-append, drop_of_length-le}
use lib.Seq.{drop-append-le, take_at, take_all}
use Rattle.gates.specs.Gate.{numbers_of}
use Rattle.gates.specs.Board.{conditional_count, MaskTape}
use Rattle.gates.proofs.Counting.{count_most}
use Rattle.gates.proofs.Hiding.{bits_take}
use Rattle.jury.specs.declared.shape.Shape.{Shape}
use Rattle.jury.specs.Shape.{within_limits, ballot_bytes}
use Rattle.jury.specs.Reason.{Reason, reason_of, reason_at, first_of}
use Rattle.jury.specs.Ballots.{ballot_reasons}
use Rattle.jury.specs.declared.reason.Refusal.{Refusal}
use Rattle.jury.specs.declared.reason.Refusal.TheVariants as refusal
use Rattle.basics.proofs.Flags.{T_true, true_T}
use Rattle.jury.proofs.Limits.{bounds_T, inputs_bound}
use Rattle.tally.specs.Rule.{closing_for}
use Rattle.tally.specs.OwnList.{own_list}
use Rattle.tally.proofs.Rules.{closing_length}
use Rattle.tally.specs.Answer.{refused, accepted, outcome, Size, size_of, outcome_of}
use Rattle.tally.specs.Run.{run_result}
use Rattle.tally.specs.Write.{write_reasons, write_outcome, write_result}
use Rattle.tally.specs.Demands.{list_in}
use Rattle.tally.proofs.TestReasons.{or_else, first_append}
use Rattle.tally.proofs.Writing.{WritePassed, write_passed, write_refused, outside, write_length, list_in_lem}
use Rattle.tally.proofs.RunReasons.{outcome_refused, outcome_accepted}
use Rattle.tally.proofs.OwnRun.{own_answer, own_closing}
use Rattle.rehearsal.specs.Rehearsal.{shape_of_input, ballots_of_input, rehearsal_reasons, printed_of, rehearsal_outcome}
use Rattle.rehearsal.specs.inner.Buffers.{Buffers, Cut}
use Rattle.rehearsal.specs.inner.Rehearses.{ballots_outcome}

-- a buffer that is long enough, cut to its first n bytes
pub cut_long : (n : ℕ) (xs : List ℕ) → n ≤ length xs → n ≡ length (take n xs)
cut_long n xs h = omega (arith, length-take n xs)

module _ (s : Shape) (list : List ℕ) (gates conditional : ℕ) (tape wires board : List ℕ)
    (u : Cut s list gates conditional tape wires board) where
  fewer : conditional ≤ gates
  fewer = omega (arith, u.gates_are, u.conditional_are, count_most (own_list s))

  pub inputs_most : ballot_bytes s ≤ 16320
  inputs_most = inputs_bound s (bounds_T s u.within)

  pub tape_fits : conditional ≤ length tape
  tape_fits = omega (arith, fewer, u.few, u.tape_length)

  pub wires_fit_lem : (inputs : ℕ) → inputs ≡ ballot_bytes s → inputs + gates ≤ length wires
  wires_fit_lem inputs e = omega (arith, inputs_most, u.few, u.wires_length)

  pub board_fits : conditional + s.candidates ≤ length board
  board_fits = omega (arith, fewer, u.few, u.board_length, (bounds_T s u.within).k_most)

  pub board_most : conditional + s.candidates ≤ 4008
  board_most = omega (arith, fewer, u.few, (bounds_T s u.within).k_most)

  module _ (ballots : List ℕ) (inputs : ℕ) (i : inputs ≡ ballot_bytes s) where
    -- what the run is lent
    tape' : List ℕ
    tape' = take conditional tape

    wires' : List ℕ
    wires' = take (inputs + gates) wires

    board' : List ℕ
    board' = take (conditional + s.candidates) board

    mask : MaskTape (own_list s) tape'
    unfolding tape'
    mask = record { size = sym (cut_long conditional tape tape_fits) ∙ u.conditional_are; bits = bits_take conditional tape u.tape_bits }

    wires_long : length wires' ≡ ballot_bytes s + length (own_list s)
    unfolding wires'
    wires_long = omega (arith, cut_long (inputs + gates) wires (wires_fit_lem inputs i), u.gates_are)

    board_long : length board' ≡ conditional_count (own_list s) + s.candidates
    unfolding board'
    board_long = omega (arith, cut_long (conditional + s.candidates) board board_fits, u.conditional_are)

    answers : (run_result s list ballots tape' wires' board').answer ≡ outcome (first_of (ballot_reasons s ballots)) (size_of (own_list s))
    answers =
        ap (λ (l : List ℕ). (run_result s l ballots tape' wires' board').answer) u.list_is
        ∙ own_answer s (T_true (within_limits s) u.within) ballots tape' wires' board' mask wires_long board_long

    pub refusal_outcome : (reason : Refusal) → outcome_of (Err reason)
        ≡ (run_result s list ballots (take conditional tape) (take (inputs + gates) wires)
        (take (conditional + s.candidates) board)).answer
        → refused (reason_of reason) ≡ ballots_outcome s ballots
    unfolding outcome_of ballots_outcome outcome tape' wires' board'
    refusal_outcome reason e =
        let o = first_of (ballot_reasons s ballots) in
        sym (ap (λ (o : Option Reason). outcome o (printed_of s ballots))
        (outcome_refused o (size_of (own_list s)) (reason_of reason) (sym (e ∙ answers))))

    -- the closing bytes are on the board, whatever comes after them
    placed : (b rest : List ℕ) → b ≡ (run_result s list ballots tape' wires' board').board → first_of (ballot_reasons s ballots) ≡ none
        → take s.candidates (drop (conditional_count (own_list s)) (b ++ rest)) ≡ closing_for s ballots
    placed b rest e none_applies =
        let n = conditional_count (own_list s) in
        let p = own_closing s (T_true (within_limits s) u.within) ballots tape' wires' board' mask wires_long board_long none_applies in
        let f : b ≡ (run_result s (numbers_of (own_list s)) ballots tape' wires' board').board = e
        ∙ ap (λ (l : List ℕ). (run_result s l ballots tape' wires' board').board) u.list_is in
        let closing = closing_for s ballots in
        let long : length b ≡ n + s.candidates = ap length f ∙ p.0 in
        ap (take s.candidates) (drop-append-le n b rest (omega arith) ∙ ap (λ (l : List ℕ). drop n l ++ rest) f
        ∙ ap (λ (l : List ℕ). l ++ rest) p.1)
        ∙ take_at closing rest s.candidates (closing_length s ballots)

    pub winners_outcome : (g c : ℕ) (b rest : List ℕ) → outcome_of (Ok (record { gates = g; conditional = c }))
        ≡ (run_result s list ballots (take conditional tape) (take (inputs + gates) wires)
        (take (conditional + s.candidates) board)).answer
        → b ≡ (run_result s list ballots (take conditional tape) (take (inputs + gates) wires)
        (take (conditional + s.candidates) board)).board
        → accepted (record { jury = s; winners = take s.candidates (drop c (b ++ rest)) }) ≡ ballots_outcome s ballots
    unfolding printed_of outcome_of ballots_outcome outcome size_of tape' wires' board'
    winners_outcome g c b rest e f =
        let o = first_of (ballot_reasons s ballots) in
        let h = outcome_accepted o (size_of (own_list s)) (record { gates = g; conditional = c }) (sym (e ∙ answers)) in
        let same : accepted (record { gates = g; conditional = c }) ≡ accepted (size_of (own_list s)) = e ∙ answers
        ∙ ap (λ (o : Option Reason). outcome o (size_of (own_list s))) h in
        let size : record { gates = g; conditional = c } ≡ size_of (own_list s) = cc in
        let n : c ≡ conditional_count (own_list s) = ap (λ (z : Size). z.conditional) size in
        ap (λ (l : List ℕ). accepted (record { jury = s; winners = l }))
        (ap (λ (m : ℕ). take s.candidates (drop m (b ++ rest))) n ∙ placed b rest f h)
        ∙ sym (ap (λ (o : Option Reason). outcome o (printed_of s ballots)) h)

    -- the closing bytes end within the board
    pub winners_end : (g c : ℕ) (b rest : List ℕ) → outcome_of (Ok (record { gates = g; conditional = c }))
        ≡ (run_result s list ballots (take conditional tape) (take (inputs + gates) wires)
        (take (conditional + s.candidates) board)).answer
        → b ≡ (run_result s list ballots (take conditional tape) (take (inputs + gates) wires)
        (take (conditional + s.candidates) board)).board
        → c + s.candidates ≤ length (b ++ rest)
    unfolding outcome_of size_of outcome tape' wires' board'
    winners_end g c b rest e f =
        let o = first_of (ballot_reasons s ballots) in
        let h = outcome_accepted o (size_of (own_list s)) (record { gates = g; conditional = c }) (sym (e ∙ answers)) in
        let same : accepted (record { gates = g; conditional = c }) ≡ accepted (size_of (own_list s)) = e ∙ answers
        ∙ ap (λ (o : Option Reason). outcome o (size_of (own_list s))) h in
        let size : record { gates = g; conditional = c } ≡ size_of (own_list s) = cc in
        let n : c ≡ conditional_count (own_list s) = ap (λ (z : Size). z.conditional) size in
        let p = own_closing s (T_true (within_limits s) u.within) ballots tape' wires' board' mask wires_long board_long h in
        let long : length b ≡ conditional_count (own_list s) + s.candidates =
        ap length (f ∙ ap (λ (l : List ℕ). (run_result s l ballots tape' wires' board').board) u.list_is) ∙ p.0 in
        omega (arith, length-append b rest)

-- after an accepted write, the list and the buffers are what the run requires
module _ (s : Shape) (table tape wires board : List ℕ) (l : Buffers table tape wires board) (g c : ℕ)
    (e : outcome_of (Ok (record { gates = g; conditional = c })) ≡ write_outcome s table) where
  passed : WritePassed s table (record { gates = g; conditional = c })
  passed = unfold outcome_of in (write_passed s table (record { gates = g; conditional = c }) (sym e))

  gates_own : g ≡ length (own_list s)
  gates_own = unfold size_of in (ap (λ (z : Size). z.gates) passed.own_size)

  pub gates_few : g ≤ 4000
  gates_few = omega (arith, passed.room, gates_own, l.table_length)

  pub list_fits : 4 * g ≤ length (write_result s table)
  list_fits = omega (arith, passed.room, gates_own, write_length s table)

  pub write_cut : (list : List ℕ) → list ≡ take (4 * g) (write_result s table) → Cut s list g c tape wires board
  write_cut list f =
      record {
        within = true_T (within_limits s) passed.within;
        list_is = f ∙ own_numbers;
        gates_are = gates_own;
        conditional_are = unfold size_of in (ap (λ (z : Size). z.conditional) passed.own_size);
        few = gates_few;
        tape_length = l.tape_length;
        tape_bits = l.tape_bits;
        wires_length = l.wires_length;
        board_length = l.board_length;
      }
    where
      own_numbers : take (4 * g) (write_result s table) ≡ numbers_of (own_list s)
      own_numbers = unfold list_in in (list_in_lem s table (record { gates = g; conditional = c }) passed)

  pub by_the_run : (input : List ℕ) → s ≡ shape_of_input input → ballots_outcome s (ballots_of_input input) ≡ rehearsal_outcome input table
  unfolding ballots_outcome rehearsal_outcome rehearsal_reasons or_else
  by_the_run input f =
      let ballots = ballot_reasons (shape_of_input input) (ballots_of_input input) in
      let none_applies = ap (λ (z : Shape). first_of (write_reasons z table)) (sym f) ∙ passed.reasons in
      ap (λ (z : Shape). ballots_outcome z (ballots_of_input input)) f
      ∙ sym (ap (λ (o : Option Reason). outcome o (printed_of (shape_of_input input) (ballots_of_input input)))
      (first_append (write_reasons (shape_of_input input) table) ballots
      ∙ ap (λ (o : Option Reason). or_else o (first_of ballots)) none_applies))

-- if the write is refused, its reason is the answer
pub by_the_write : (input table : List ℕ) (s : Shape) (reason : Refusal) → s ≡ shape_of_input input
    → outcome_of (Err reason) ≡ write_outcome s table → refused (reason_of reason)
    ≡ rehearsal_outcome input table
unfolding outcome_of write_outcome outcome rehearsal_outcome rehearsal_reasons or_else
by_the_write input table s reason f e =
    let ballots = ballot_reasons (shape_of_input input) (ballots_of_input input) in
    let r = outcome_refused (first_of (write_reasons s table)) (size_of (own_list s)) (reason_of reason) (sym e) in
    let applies = ap (λ (z : Shape). first_of (write_reasons z table)) (sym f) ∙ r in
    sym (ap (λ (o : Option Reason). outcome o (printed_of (shape_of_input input) (ballots_of_input input)))
    (first_append (write_reasons (shape_of_input input) table) ballots
    ∙ ap (λ (o : Option Reason). or_else o (first_of ballots)) applies))

-- a shape outside the limits is refused as a write of its list would be
pub by_the_limits : (input table : List ℕ) → within_limits (shape_of_input input) ≡ false → refused (reason_of refusal.Shape)
    ≡ rehearsal_outcome input table
unfolding outcome_of reason_of
by_the_limits input table w = by_the_write input table (shape_of_input input) refusal.Shape refl
    (sym (write_refused (shape_of_input input) table (reason_at 1 0) (outside (shape_of_input input) table w)).0)

-- the ballots after the first three bytes
pub no_ballots : (input : List ℕ) → length input < 3 → ballots_of_input input ≡ []
unfolding ballots_of_input
no_ballots input h = drop_of_length-le input {i = 3} (omega arith)

pub some_ballots : (input : List ℕ) → take (length input - 3) (drop 3 input) ≡ ballots_of_input input
unfolding ballots_of_input
some_ballots input = take_all (length input - 3) (drop 3 input) (omega (arith, length-drop 3 input))

-- the same, as the program takes them: what is left after three bytes, or nothing
pub ballots_after : (input : List ℕ) (r : prelude.Option (Bor (List ℕ))) (none_left ballots : Bor (List ℕ))
    → PartBy (λ (x : Bor (List ℕ)). x.now) input 3 (length input) r → none_left.now ≡ [] → ballots ≡ prelude.unwrap_or r none_left
    → ballots.now ≡ ballots_of_input input
ballots_after input prelude.None none_left ballots h e f =
    ap (λ (x : Bor (List ℕ)). x.now) f ∙ e
    ∙ ⊎_elim (λ (l : length input < 3). sym (no_ballots input l)) (λ (l : length input < length input). absurd (omega arith)) h.0
ballots_after input (prelude.Some rest) none_left ballots h e f = ap (λ (x : Bor (List ℕ)). x.now) f ∙ h.0.2 ∙ some_ballots input

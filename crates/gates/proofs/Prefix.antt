-- The wire table and the board after the first m gates of a list, and the step from there to more gates.
-- Assumes nothing.
use Rattle.std.specs.Prelude.{None}
use mathlib.Core.Path.{◌≡◌, ◌∙◌, refl, sym, ap, subst}
use mathlib.Core.Bool.{Bool, true, false, cond}
use mathlib.Core.List.{List, [], ◌∷◌, ◌++◌, zip_with, append-nil}
use Prim.Native.Nat.{ℕ, zero, suc, ◌+◌, ◌-◌, ◌≤◌, ◌<◌}
use native.Mathlib.Nat.{add-zero}
use native.Mathlib.Omega.{arith}
use lib.ListN.{length, get_or, take, drop, length-append, length-drop, take-append-drop, get_or-append, drop_of_length-le}
use lib.Seq.{length-take-le, take-length, take_at, take-add, drop-drop, drop-append-add, sets, sets-eq}
use Rattle.gates.specs.Open.Kind.{conditional_of}
use Rattle.gates.specs.Open.Gate.{Gate, gates_of}
use Rattle.gates.specs.Open.Wires.{wire, wires_of, outputs_of}
use Rattle.gates.specs.Open.Board.{conditionals, conditional_count, shown_bit, shown_bits, board_of}
use Rattle.gates.specs.Open.Test.{first_bad}
use Rattle.gates.specs.Open.Step.{range_of, step_wires, step_board, StepReady, RunReady, CloseReady}
use Rattle.gates.proofs.Goodness.{good_gate_lem}
use Rattle.gates.proofs.Counting.{count_append}
use Rattle.gates.proofs.WireLaws.{length_wires, wires_append, wires_keep}
use Rattle.gates.proofs.Stepping.{uses_a}
use Rattle.gates.proofs.Finishing.{length_zip}
use Rattle.gates.proofs.Laws.{AllGood, none_bad, all_good}

-- the first gates, then a range that begins where they end
pub range_append : (t : List ℕ) (from to : ℕ) → from ≤ to → take from (gates_of t) ++ range_of t from to ≡ take to (gates_of t)
unfolding range_of
range_append t from to h =
    sym (take-add from (to - from) (gates_of t)) ∙ ap (λ (n : ℕ). take n (gates_of t)) {x = from + (to - from)} {y = to} (omega arith)

-- parts of a list of good gates are lists of good gates
good_take : (n m : ℕ) (gs : List Gate) → AllGood n gs → AllGood n (take m gs)
good_take n zero gs p = tt
good_take n (suc m) [] p = tt
good_take n (suc m) (g ∷ gs) p = (p.0, good_take (suc n) m gs p.1)

good_drop : (n m : ℕ) (gs : List Gate) → AllGood n gs → AllGood (n + m) (drop m gs)
good_drop n zero gs p = subst (λ (i : ℕ). AllGood i gs) (sym (add-zero n)) p
good_drop n (suc m) [] p = tt
good_drop n (suc m) (g ∷ gs) p =
    subst (λ (i : ℕ). AllGood i (drop m gs)) {x = suc n + m} {y = n + suc m} (omega arith)
    (good_drop (suc n) m gs p.1)

range_all_good : (inputs : ℕ) (t : List ℕ) (from to : ℕ) → first_bad inputs 0 (gates_of t) ≡ None
    → AllGood (inputs + from) (range_of t from to)
unfolding range_of
range_all_good inputs t from to e =
    good_take (inputs + from) (to - from) (drop from (gates_of t))
    (good_drop inputs from (gates_of t) (subst (λ (i : ℕ). AllGood i (gates_of t)) (add-zero inputs) (all_good inputs 0 (gates_of t) e)))

-- C of the first gates and C of the range after them add up
pub count_range : (t : List ℕ) (from to : ℕ) → from ≤ to → conditional_count (take from (gates_of t))
    + conditional_count (range_of t from to) ≡ conditional_count (take to (gates_of t))
count_range t from to h = sym (count_append (take from (gates_of t)) (range_of t from to)) ∙ ap conditional_count (range_append t from to h)

pub count_prefix : (gs : List Gate) (m : ℕ) → conditional_count (take m gs) ≤ conditional_count gs
count_prefix gs m = omega (arith, count_append (take m gs) (drop m gs), ap conditional_count (take-append-drop m gs))

-- there are as many shown bits as conditional gates if the tape is long enough
pub length_shown_bits : (ws : List ℕ) (gs : List Gate) (tape : List ℕ) → conditional_count gs ≤ length tape
    → length (shown_bits ws gs tape) ≡ conditional_count gs
unfolding shown_bits conditional_count
length_shown_bits ws gs tape h = omega (arith, length_zip (shown_bit ws) (conditionals gs) tape)

-- the shown bits of two lists, one after the other
pub shown_append : (ws : List ℕ) (gs hs : List Gate) (tape : List ℕ) → conditional_count gs ≤ length tape
    → shown_bits ws (gs ++ hs) tape ≡ shown_bits ws gs tape ++ shown_bits ws hs (drop (conditional_count gs) tape)
unfolding shown_bits conditionals conditional_count zip_with
shown_append ws [] hs tape h = refl
shown_append ws (g ∷ gs) hs tape h =
    go (λ (ms : List ℕ) (k : length (conditionals gs) ≤ length ms). shown_append ws gs hs ms k)
    (conditional_of g.kind) tape h
  where
    go : ((ms : List ℕ) → length (conditionals gs) ≤ length ms
        → zip_with (shown_bit ws) (conditionals (gs ++ hs)) ms ≡ zip_with (shown_bit ws) (conditionals gs) ms
        ++ zip_with (shown_bit ws) (conditionals hs) (drop (length (conditionals gs)) ms))
        → (t : Bool) (ms : List ℕ) → length (cond t (g ∷ conditionals gs) (conditionals gs)) ≤ length ms
        → zip_with (shown_bit ws) (cond t (g ∷ conditionals (gs ++ hs)) (conditionals (gs ++ hs))) ms
        ≡ zip_with (shown_bit ws) (cond t (g ∷ conditionals gs) (conditionals gs)) ms
        ++ zip_with (shown_bit ws) (conditionals hs) (drop (length (cond t (g ∷ conditionals gs) (conditionals gs))) ms)
    go more true [] k = absurd (omega arith)
    go more true (m ∷ ms) k = ap (λ (l : List ℕ). shown_bit ws g m ∷ l) (more ms (omega arith))
    go more false ms k = more ms k

-- good gates show the same bits of two wire tables that agree below the wires that they make
shown_agree : (vs ws : List ℕ) (own : ℕ) (gs : List Gate) (tape : List ℕ) → AllGood own gs
    → ((i : ℕ) → i < own + length gs → get_or vs i 0 ≡ get_or ws i 0)
    → shown_bits vs gs tape ≡ shown_bits ws gs tape
unfolding shown_bits conditionals zip_with shown_bit wire
shown_agree vs ws own [] tape p same = refl
shown_agree vs ws own (g ∷ gs) tape p same =
    go (λ (ms : List ℕ). shown_agree vs ws (suc own) gs ms p.1
    (λ (i : ℕ) (h : i < suc own + length gs). same i (omega arith))) (conditional_of g.kind) refl tape
  where
    go : ((ms : List ℕ) → zip_with (shown_bit vs) (conditionals gs) ms ≡ zip_with (shown_bit ws) (conditionals gs) ms)
        → (t : Bool) → conditional_of g.kind ≡ t → (ms : List ℕ)
        → zip_with (shown_bit vs) (cond t (g ∷ conditionals gs) (conditionals gs)) ms
        ≡ zip_with (shown_bit ws) (cond t (g ∷ conditionals gs) (conditionals gs)) ms
    go rest true e [] = refl
    go rest true e (m ∷ ms) =
        let facts = good_gate_lem own g p.0 in
        let a_below : g.a < own = facts.a_below (uses_a g.kind facts.known e) in
        rw (same g.a (omega arith), rest ms)
    go rest false e ms = rest ms

-- The wire table, the board and the number of shown bits after the first m gates. lw and lb are what the table and
-- the board held before.
pub record Stands (inputs t tape lw lb : List ℕ) (m : ℕ) (ws board : List ℕ) (shown : ℕ) : Type 0 where
  pub wires_are : ws ≡ wires_of inputs (take m (gates_of t)) ++ drop (length inputs + m) lw
  pub board_is : board ≡ shown_bits (wires_of inputs (gates_of t)) (take m (gates_of t)) tape ++ drop (conditional_count (take m (gates_of t))) lb
  pub count : shown ≡ conditional_count (take m (gates_of t))

module _ (inputs t : List ℕ) (k : ℕ) (tape lw lb : List ℕ) (run : RunReady inputs t k tape lw lb) where
  -- before the first gate: the inputs are in the wire table, the board is untouched
  pub stands_first : (ws board : List ℕ) (shown : ℕ) → ws ≡ take (length inputs) inputs ++ drop (length inputs) lw
      → board ≡ lb → shown ≡ 0 → Stands inputs t tape lw lb 0 ws board shown
  unfolding wires_of shown_bits conditionals conditional_count zip_with
  stands_first ws board shown e f n =
      record {
        wires_are =
            e ∙ ap (λ (l : List ℕ). l ++ drop (length inputs) lw) (take-length inputs)
            ∙ ap (λ (n : ℕ). inputs ++ drop n lw) (sym (add-zero (length inputs)));
        board_is = f;
        count = n;
      }

  module _ (from to : ℕ) (h : from ≤ to) (l : to ≤ length (gates_of t)) (ws board : List ℕ) (shown : ℕ)
      (s : Stands inputs t tape lw lb from ws board shown) where
    made : List ℕ
    made = wires_of inputs (take from (gates_of t))

    made_long : length made ≡ length inputs + from
    unfolding made
    made_long = omega (arith, length_wires inputs (take from (gates_of t)), length-take-le from (gates_of t) (omega arith))

    all_made : length (wires_of inputs (take to (gates_of t))) ≡ length inputs + to
    all_made = omega (arith, length_wires inputs (take to (gates_of t)), length-take-le to (gates_of t) l)

    ws_long : length ws ≡ length lw
    unfolding made
    ws_long =
        omega (
          arith,
          ap length s.wires_are,
          length-append made (drop (length inputs + from) lw),
          made_long,
          length-drop (length inputs + from) lw,
          run.wires_length,
        )

    first_bits : List ℕ
    first_bits = shown_bits (wires_of inputs (gates_of t)) (take from (gates_of t)) tape

    first_long : length first_bits ≡ shown
    unfolding first_bits
    first_long =
        length_shown_bits (wires_of inputs (gates_of t)) (take from (gates_of t)) tape
        (omega (arith, count_prefix (gates_of t) from, run.tape_length)) ∙ sym s.count

    board_long : length board ≡ length lb
    unfolding first_bits
    board_long =
        omega (
          arith,
          ap length s.board_is,
          length-append first_bits (drop (conditional_count (take from (gates_of t))) lb),
          first_long,
          s.count,
          length-drop (conditional_count (take from (gates_of t))) lb,
          run.board_length,
          count_prefix (gates_of t) from,
        )

    -- what the step asks
    pub can_step : StepReady (length inputs) t from to tape shown ws board
    can_step =
        record {
          order = h;
          in_table = l;
          good = none_bad (length inputs) from (range_of t from to) (range_all_good (length inputs) t from to run.good);
          in_wires = omega (arith, ws_long, run.wires_length);
          in_tape = omega (arith, s.count, count_range t from to h, count_prefix (gates_of t) to, run.tape_length);
          in_board = omega (arith, s.count, count_range t from to h, count_prefix (gates_of t) to, board_long, run.board_length);
        }

    -- the wires after the step
    pub step_wires_lem : step_wires (length inputs) t from to ws ≡ wires_of inputs (take to (gates_of t)) ++ drop (length inputs + to) lw
    unfolding step_wires made
    step_wires_lem =
        let i = length inputs in
        let taken : take (i + from) ws ≡ made = ap (take (i + from)) s.wires_are
        ∙ take_at made (drop (i + from) lw) (i + from) made_long in
        let far : i + to ≡ length made + (to - from) = omega (arith, made_long) in
        let left : drop (i + to) ws ≡ drop (i + to) lw =
        ap (λ (n : ℕ). drop n ws) far ∙ ap (drop (length made + (to - from))) s.wires_are
        ∙ drop-append-add made (drop (i + from) lw) (to - from)
        ∙ drop-drop (to - from) (i + from) lw
        ∙ ap (λ (n : ℕ). drop n lw) {x = i + from + (to - from)} {y = i + to} (omega arith) in
        ap (λ (x : List ℕ). wires_of x (range_of t from to) ++ drop (i + to) ws) taken
        ∙ ap (λ (x : List ℕ). wires_of made (range_of t from to) ++ x) left
        ∙ ap (λ (x : List ℕ). x ++ drop (i + to) lw) (sym (wires_append inputs (take from (gates_of t)) (range_of t from to)))
        ∙ ap (λ (x : List Gate). wires_of inputs x ++ drop (i + to) lw) (range_append t from to h)

    -- the wires that the range reads are those of the whole list
    wires_agree : (i : ℕ) → i < length inputs + to → get_or (step_wires (length inputs) t from to ws) i 0
        ≡ get_or (wires_of inputs (gates_of t)) i 0
    wires_agree i b =
        let first = wires_of inputs (take to (gates_of t)) in
        ap (λ (x : List ℕ). get_or x i 0) step_wires_lem
        ∙ get_or-append first (drop (length inputs + to) lw) 0 i (omega (arith, all_made))
        ∙ sym (wires_keep first (drop to (gates_of t)) i (omega (arith, all_made)))
        ∙ sym (ap (λ (x : List ℕ). get_or x i 0) (wires_append inputs (take to (gates_of t)) (drop to (gates_of t))))
        ∙ ap (λ (x : List Gate). get_or (wires_of inputs x) i 0) (take-append-drop to (gates_of t))

    range_long : length (range_of t from to) ≡ to - from
    unfolding range_of
    range_long = length-take-le (to - from) (drop from (gates_of t)) (omega (arith, length-drop from (gates_of t)))

    range_bits : List ℕ
    range_bits = shown_bits (wires_of inputs (gates_of t)) (range_of t from to) (drop shown tape)

    range_bits_are : shown_bits (step_wires (length inputs) t from to ws) (range_of t from to) (drop shown tape) ≡ range_bits
    unfolding range_bits
    range_bits_are =
        shown_agree (step_wires (length inputs) t from to ws) (wires_of inputs (gates_of t)) (length inputs + from)
        (range_of t from to) (drop shown tape)
        (range_all_good (length inputs) t from to run.good)
        (λ (i : ℕ) (b : i < length inputs + from + length (range_of t from to)). wires_agree i (omega (arith, range_long)))

    range_bits_long : length range_bits ≡ conditional_count (range_of t from to)
    unfolding range_bits
    range_bits_long =
        length_shown_bits (wires_of inputs (gates_of t)) (range_of t from to) (drop shown tape)
        (omega (arith, s.count, count_range t from to h, count_prefix (gates_of t) to, run.tape_length, length-drop shown tape))

    -- the board after the step
    pub step_board_lem : step_board (length inputs) t from to tape shown ws board
        ≡ shown_bits (wires_of inputs (gates_of t)) (take to (gates_of t)) tape ++ drop (conditional_count (take to (gates_of t))) lb
    unfolding step_board first_bits range_bits
    step_board_lem =
        let n = shown + length range_bits in
        let far : n ≡ conditional_count (take to (gates_of t)) = omega (arith, range_bits_long, s.count, count_range t from to h) in
        let rest = drop (conditional_count (take from (gates_of t))) lb in
        let first : take shown board ≡ first_bits = ap (take shown) s.board_is ∙ take_at first_bits rest shown first_long in
        let left : drop n board ≡ drop (conditional_count (take to (gates_of t))) lb =
        ap (λ (m : ℕ). drop (m + length range_bits) board) (sym first_long) ∙ ap (drop (length first_bits + length range_bits)) s.board_is
        ∙ drop-append-add first_bits rest (length range_bits)
        ∙ drop-drop (length range_bits) (conditional_count (take from (gates_of t))) lb
        ∙ ap (λ (m : ℕ). drop m lb) {x = conditional_count (take from (gates_of t)) + length range_bits}
        {y = conditional_count (take to (gates_of t))} (omega (arith, s.count)) in
        let joined : first_bits ++ range_bits ≡ shown_bits (wires_of inputs (gates_of t)) (take to (gates_of t)) tape =
        ap (λ (m : ℕ). first_bits ++ shown_bits (wires_of inputs (gates_of t)) (range_of t from to) (drop m tape)) s.count
        ∙ sym (shown_append (wires_of inputs (gates_of t)) (take from (gates_of t)) (range_of t from to) tape
        (omega (arith, count_prefix (gates_of t) from, run.tape_length)))
        ∙ ap (λ (x : List Gate). shown_bits (wires_of inputs (gates_of t)) x tape) (range_append t from to h) in
        ap (sets board shown) range_bits_are
        ∙ sets-eq range_bits board shown (omega (arith, board_long, count_prefix (gates_of t) to, run.board_length))
        ∙ ap (λ (x : List ℕ). x ++ range_bits ++ drop n board) first
        ∙ ap (λ (x : List ℕ). x ++ drop n board) joined
        ∙ ap (λ (x : List ℕ). shown_bits (wires_of inputs (gates_of t)) (take to (gates_of t)) tape ++ x) left

    -- so after the step the first `to` gates are evaluated
    pub step_stands : (ws' board' : List ℕ) (shown' : ℕ) → shown' ≡ shown + conditional_count (range_of t from to)
        → ws' ≡ step_wires (length inputs) t from to ws
        → board' ≡ step_board (length inputs) t from to tape shown ws board → Stands inputs t tape lw lb to ws' board' shown'
    step_stands ws' board' shown' n e f =
        record { wires_are = e ∙ step_wires_lem; board_is = f ∙ step_board_lem; count = omega (arith, s.count, count_range t from to h) }

  -- after the last gate
  module _ (ws board : List ℕ) (shown : ℕ) (s : Stands inputs t tape lw lb (length (gates_of t)) ws board shown) where
    pub last_wires : ws ≡ wires_of inputs (gates_of t)
    last_wires =
        s.wires_are
        ∙ ap (λ (x : List Gate). wires_of inputs x ++ drop (length inputs + length (gates_of t)) lw) (take-length (gates_of t))
        ∙ ap (λ (x : List ℕ). wires_of inputs (gates_of t) ++ x)
        (drop_of_length-le lw {i = length inputs + length (gates_of t)} (omega (arith, run.wires_length)))
        ∙ append-nil (wires_of inputs (gates_of t))

    last_count : shown ≡ conditional_count (gates_of t)
    last_count = s.count ∙ ap conditional_count (take-length (gates_of t))

    last_bits : length (shown_bits (wires_of inputs (gates_of t)) (gates_of t) tape) ≡ shown
    last_bits = length_shown_bits (wires_of inputs (gates_of t)) (gates_of t) tape (omega (arith, run.tape_length)) ∙ sym last_count

    last_board : board ≡ shown_bits (wires_of inputs (gates_of t)) (gates_of t) tape ++ drop (conditional_count (gates_of t)) lb
    last_board =
        s.board_is
        ∙ ap (λ (x : List Gate). shown_bits (wires_of inputs (gates_of t)) x tape ++ drop (conditional_count x) lb) (take-length (gates_of t))

    -- what closing asks
    pub can_close : CloseReady k shown ws board
    can_close =
        record {
          enough = omega (arith, ap length last_wires, length_wires inputs (gates_of t), run.enough);
          board_length =
              omega (
                arith,
                ap length last_board,
                length-append (shown_bits (wires_of inputs (gates_of t)) (gates_of t) tape) (drop (conditional_count (gates_of t)) lb),
                last_bits,
                last_count,
                length-drop (conditional_count (gates_of t)) lb,
                run.board_length,
              );
        }

    -- the whole board
    pub closed_board : (board' : List ℕ) → board' ≡ take shown board ++ outputs_of k ws → board'
        ≡ board_of (wires_of inputs (gates_of t)) (gates_of t) k tape
    unfolding board_of
    closed_board board' e =
        let bits = shown_bits (wires_of inputs (gates_of t)) (gates_of t) tape in
        e
        ∙ ap (λ (b : List ℕ). take shown b ++ outputs_of k ws) last_board
        ∙ ap (λ (b : List ℕ). b ++ outputs_of k ws) (take_at bits (drop (conditional_count (gates_of t)) lb) shown last_bits)
        ∙ ap (λ (w : List ℕ). bits ++ outputs_of k w) last_wires

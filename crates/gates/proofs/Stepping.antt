-- One turn of the evaluating step: evaluating a gate and then the rest leaves what evaluating all that was left
-- would.
-- Assumes nothing.
use Rattle.std.specs.Prelude.{Some, None}
use mathlib.Core.Path.{◌≡◌, ◌∙◌, refl, sym, ap}
use mathlib.Core.Bool.{Bool, true, false, cond, false≢true}
use mathlib.Core.List.{List, [], ◌∷◌, ◌++◌, zip_with}
use Prim.Native.Nat.{ℕ, suc, ◌+◌, ◌-◌, ◌≤◌, ◌<◌}
use native.Mathlib.Nat.{add-suc, sub_self}
use native.Mathlib.Omega.{arith}
use lib.Dec.{T}
use lib.ListN.{length, get_or, take, drop, set, length-set, take-append-drop, get_or-append}
use lib.Seq.{take-suc-set, drop-set-lt, drop-cons, get_or-take, sets, length-take-le}
use Rattle.gates.specs.Open.Kind.{kind_count, conditional_of, operands_of}
use Rattle.gates.specs.Open.Gate.{Gate, gates_of, gate_at}
use Rattle.gates.specs.Open.Wires.{wire, value, wires_of}
use Rattle.gates.specs.Open.Board.{conditionals, conditional_count, shown_bit, shown_bits}
use Rattle.gates.specs.Open.Test.{good_gate, first_bad}
use Rattle.gates.specs.Open.Step.{range_of, step_wires, GateReady}
use Rattle.gates.proofs.KindLaws.{each_kind}
use Rattle.gates.proofs.Table.{gates_from, length_gates}
use Rattle.gates.proofs.Counting.{count_nil, count_one, count_append}
use Rattle.gates.proofs.Goodness.{good_gate_lem}
use Rattle.gates.proofs.WireLaws.{length_wires, wires_keep, same_value}

-- a range begins with its first gate
pub range_from : (t : List ℕ) (g to : ℕ) → g < to → to ≤ length (gates_of t) → range_of t g to ≡ gate_at t g ∷ range_of t (suc g) to
unfolding range_of
range_from t g to h l =
    let e : to - g ≡ suc (to - suc g) = omega arith in
    let k : g < length (gates_of t) = omega arith in
    rw (e, gates_from t g)

-- if no gate is bad, the first is good and none after it is bad
pub first_good : (inputs g : ℕ) (x : Gate) (xs : List Gate) → first_bad inputs g (x ∷ xs) ≡ None
    → T (good_gate (inputs + g) x) × (first_bad inputs (suc g) xs ≡ None)
unfolding first_bad
first_good inputs g x xs e = go (good_gate (inputs + g) x) e
  where
    go : (t : Bool) → cond t (first_bad inputs (suc g) xs) (Some g) ≡ None → T t × (first_bad inputs (suc g) xs ≡ None)
    go true p = (tt, p)
    go false p = let z : ◌≡◌ {A = ℕ} 0 1 = cc in absurd (omega arith)

-- storing gate g's wire and evaluating the rest leaves the same wires as evaluating from gate g on
pub wires_turn : (inputs : ℕ) (t : List ℕ) (g to : ℕ) (ws : List ℕ) → g < to → to ≤ length (gates_of t) → inputs + to
    ≤ length ws → T (good_gate (inputs + g) (gate_at t g))
    → step_wires inputs t (suc g) to (set ws (inputs + g) (value ws (gate_at t g))) ≡ step_wires inputs t g to ws
unfolding step_wires wires_of
wires_turn inputs t g to ws h l m good =
    let x = gate_at t g in
    let own = inputs + g in
    let v = value ws x in
    let rest = range_of t (suc g) to in
    let below : own < length ws = omega arith in
    let less : own < inputs + to = omega arith in
    let size : length (take own ws) ≡ own = length-take-le own ws (omega arith) in
    let same : value (take own ws) x ≡ v = same_value (take own ws) ws own x (good_gate_lem own x good) (λ i k. get_or-take own ws i 0 k) in
    let made : take (inputs + suc g) (set ws own v) ≡ take own ws ++ (v ∷ []) =
    ap (λ (n : ℕ). take n (set ws own v)) (add-suc inputs g) ∙ take-suc-set ws own v below in
    ap (λ (l : List ℕ). wires_of l rest ++ drop (inputs + to) (set ws own v)) made
    ∙ ap (λ (l : List ℕ). wires_of (take own ws ++ (v ∷ [])) rest ++ l) (drop-set-lt (inputs + to) ws own v less)
    ∙ ap (λ (y : ℕ). wires_of (take own ws ++ (y ∷ [])) rest ++ drop (inputs + to) ws) (sym same)
    ∙ sym (ap (λ (l : List Gate). wires_of (take own ws) l ++ drop (inputs + to) ws) (range_from t g to h l))

-- a conditional gate uses wire a
pub uses_a : (k : ℕ) → k < kind_count → conditional_of k ≡ true → 0 < operands_of k
unfolding conditional_of operands_of
uses_a k h e =
    each_kind (λ (k : ℕ). conditional_of k ≡ true → 0 < operands_of k)
    (λ p. absurd (false≢true p)) (λ p. absurd (false≢true p)) (λ p. omega arith) (λ p. omega arith)
    (λ p. omega arith) (λ p. omega arith) (λ p. omega arith) (λ p. omega arith) k h e

-- the step does not change the wires before gate g's
pub wires_stand : (inputs : ℕ) (t : List ℕ) (g to : ℕ) (ws : List ℕ) (i : ℕ) → inputs + g ≤ length ws → i < inputs
    + g → get_or (step_wires inputs t g to ws) i 0 ≡ get_or ws i 0
unfolding step_wires
wires_stand inputs t g to ws i m h =
    let own = inputs + g in
    let size : length (take own ws) ≡ own = length-take-le own ws m in
    let far : i < length (wires_of (take own ws) (range_of t g to)) = omega (arith, length_wires (take own ws) (range_of t g to)) in
    get_or-append (wires_of (take own ws) (range_of t g to)) (drop (inputs + to) ws) 0 i far
    ∙ wires_keep (take own ws) (range_of t g to) i (omega arith)
    ∙ get_or-take own ws i 0 h

-- storing gate g's shown bit and then the rest leaves the same board; shown bits are read from the final wires
pub board_turn : (final ws : List ℕ) (x : Gate) (xs : List Gate) (board tape : List ℕ) (next : ℕ)
    → (conditional_of x.kind ≡ true → wire final x.a ≡ wire ws x.a) → next + conditional_count (x ∷ []) ≤ length tape
    → sets (cond (conditional_of x.kind) (set board next (shown_bit ws x (get_or tape next 0))) board) (next + conditional_count (x ∷ []))
    (shown_bits final xs (drop (next + conditional_count (x ∷ [])) tape))
    ≡ sets board next (shown_bits final (x ∷ xs) (drop next tape))
unfolding shown_bits shown_bit conditionals zip_with
board_turn final ws x xs board tape next same room = go (conditional_of x.kind) refl
  where
    go : (b : Bool) → conditional_of x.kind ≡ b
        → sets (cond (conditional_of x.kind) (set board next (shown_bit ws x (get_or tape next 0))) board) (next + conditional_count (x ∷ []))
        (shown_bits final xs (drop (next + conditional_count (x ∷ [])) tape))
        ≡ sets board next (shown_bits final (x ∷ xs) (drop next tape))
    go true e =
        let n : next + conditional_count (x ∷ []) ≡ suc next = omega (arith, count_one x, ap (λ (b : Bool). cond {A = ℕ} b 1 0) e) in
        let k : next < length tape = omega arith in
        rw (n, e, drop-cons tape next 0, same e)
    go false e =
        let n : next + conditional_count (x ∷ []) ≡ next = omega (arith, count_one x, ap (λ (b : Bool). cond {A = ℕ} b 1 0) e) in
        rw (n, e)

-- The step's invariant: gates g to `to` are left. Evaluating them from here gives the wires, the board and the
-- count of the whole range.
pub record Left (inputs : ℕ) (t : List ℕ) (to : ℕ) (tape : List ℕ) (wires_size board_size total : ℕ)
    (final final_board ws board : List ℕ) (next g : ℕ) : Type 0 where
  pub order : g ≤ to
  pub wires_left : step_wires inputs t g to ws ≡ final
  pub board_left : sets board next (shown_bits final (range_of t g to) (drop next tape)) ≡ final_board
  pub count_left : next + conditional_count (range_of t g to) ≡ total
  pub good_left : first_bad inputs g (range_of t g to) ≡ None
  pub wires_length : length ws ≡ wires_size
  pub board_length : length board ≡ board_size

module _ (inputs : ℕ) (t : List ℕ) (to : ℕ) (tape : List ℕ) (wires_size board_size total : ℕ) (final final_board : List ℕ)
    (in_table : to ≤ length (gates_of t)) (in_wires : inputs + to ≤ wires_size) (in_tape : total ≤ length tape)
    (in_board : total ≤ board_size) where
  first_of_left : (ws board : List ℕ) (next g : ℕ)
      → Left inputs t to tape wires_size board_size total final final_board ws board next g → g < to
      → T (good_gate (inputs + g) (gate_at t g)) × (first_bad inputs (suc g) (range_of t (suc g) to) ≡ None)
  first_of_left ws board next g left h =
      first_good inputs g (gate_at t g) (range_of t (suc g) to) (sym (ap (first_bad inputs g) (range_from t g to h in_table)) ∙ left.good_left)

  count_of_left : (ws board : List ℕ) (next g : ℕ)
      → Left inputs t to tape wires_size board_size total final final_board ws board next g → g < to
      → next + conditional_count (gate_at t g ∷ []) + conditional_count (range_of t (suc g) to) ≡ total
  count_of_left ws board next g left h =
      omega (
        arith,
        left.count_left,
        ap conditional_count (range_from t g to h in_table),
        count_append (gate_at t g ∷ []) (range_of t (suc g) to),
      )

  -- what the next gate asks
  pub next_ready : (ws board : List ℕ) (next g : ℕ)
      → Left inputs t to tape wires_size board_size total final final_board ws board next g → g < to
      → GateReady t g (inputs + g) tape next ws board
  next_ready ws board next g left h =
      record {
        in_table = omega (arith, length_gates t);
        good = (first_of_left ws board next g left h).0;
        in_wires = omega (arith, left.wires_length);
        in_tape = omega (arith, count_of_left ws board next g left h);
        in_board = omega (arith, count_of_left ws board next g left h, left.board_length);
      }

  -- after gate g, the gates from g + 1 on are left
  pub left_turn : (ws board : List ℕ) (next g : ℕ)
      → Left inputs t to tape wires_size board_size total final final_board ws board next g → g < to
      → Left inputs t to tape wires_size board_size total final final_board
      (set ws (inputs + g) (value ws (gate_at t g)))
      (cond (conditional_of (gate_at t g).kind) (set board next (shown_bit ws (gate_at t g) (get_or tape next 0))) board)
      (next + conditional_count (gate_at t g ∷ [])) (suc g)
  left_turn ws board next g left h =
      let x = gate_at t g in
      let good = first_of_left ws board next g left h in
      let facts = good_gate_lem (inputs + g) x good.0 in
      let room : inputs + g ≤ length ws = omega (arith, left.wires_length) in
      let stands : conditional_of x.kind ≡ true → wire final x.a ≡ wire ws x.a =
      λ e. stand x.a room (facts.a_below (uses_a x.kind facts.known e)) in
      record {
        order = h;
        wires_left = wires_turn inputs t g to ws h in_table (omega (arith, left.wires_length)) good.0 ∙ left.wires_left;
        board_left =
            board_turn final ws x (range_of t (suc g) to) board tape next stands (next_ready ws board next g left h).in_tape
            ∙ sym (ap (λ (l : List Gate). sets board next (shown_bits final l (drop next tape)))
            (range_from t g to h in_table)) ∙ left.board_left;
        count_left = count_of_left ws board next g left h;
        good_left = good.1;
        wires_length = length-set ws (inputs + g) (value ws x) ∙ left.wires_length;
        board_length = kept (conditional_of x.kind) board next (shown_bit ws x (get_or tape next 0)) ∙ left.board_length;
      }
    where
      kept : (b : Bool) (l : List ℕ) (i v : ℕ) → length (cond b (set l i v) l) ≡ length l
      kept true l i v = length-set l i v
      kept false l i v = refl

      stand : (i : ℕ) → inputs + g ≤ length ws → i < inputs + g → wire final i ≡ wire ws i
      stand i room k = unfold wire in (sym (ap (λ (l : List ℕ). get_or l i 0) left.wires_left) ∙ wires_stand inputs t g to ws i room k)

  -- the invariant for equal tables, boards and numbers
  pub left_as : (ws ws' board board' : List ℕ) (next next' g g' : ℕ)
      → Left inputs t to tape wires_size board_size total final final_board ws board next g
      → ws' ≡ ws → board' ≡ board → next' ≡ next → g' ≡ g
      → Left inputs t to tape wires_size board_size total final final_board ws' board' next' g'
  left_as ws ws' board board' next next' g g' left e f n h = rw (e, f, n, h) left

  -- past the last gate nothing is left: count, wires and board are final
  pub left_end : (ws board : List ℕ) (next g : ℕ)
      → Left inputs t to tape wires_size board_size total final final_board ws board next g → to ≤ g
      → (next ≡ total) × (ws ≡ final) × (board ≡ final_board)
  left_end ws board next g left h =
      let e : g ≡ to = omega (arith, left.order) in
      let none : range_of t g to ≡ [] = empty e in (
        omega (arith, left.count_left, ap conditional_count none, count_nil),
        sym (all_wires none e) ∙ left.wires_left,
        sym (all_board none) ∙ left.board_left,
      )
    where
      empty : g ≡ to → range_of t g to ≡ []
      empty e = unfold range_of in (rw (e, sub_self))

      all_wires : range_of t g to ≡ [] → g ≡ to → step_wires inputs t g to ws ≡ ws
      all_wires none e = unfold step_wires wires_of in (rw (none, e) (take-append-drop (inputs + to) ws))

      all_board : range_of t g to ≡ [] → sets board next (shown_bits final (range_of t g to) (drop next tape)) ≡ board
      all_board none = unfold shown_bits conditionals zip_with in (rw none)

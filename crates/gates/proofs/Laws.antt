-- Laws of kinds, good lists, wires and tables. With the other files of proofs/ they are what the layers above use:
-- those unfold none of the definitions of this one.
-- Assumes nothing.
use Rattle.std.specs.Prelude.{None}
use mathlib.Core.Path.{◌≡◌, ◌∙◌, refl, sym, ap, subst}
use mathlib.Core.Bool.{Bool, true, false, cond, ◌&&◌}
use mathlib.Core.List.{List, [], ◌∷◌, ◌++◌, append-nil}
use Prim.Native.Nat.{ℕ, zero, suc, ◌+◌, ◌-◌, ◌*◌, ◌%◌, ◌≤◌, ◌<◌, min, max}
use native.Mathlib.Nat.{add-zero, add-suc}
use native.Mathlib.Omega.{arith}
use lib.Dec.{T, ltb, eqb, lt→ltb}
use lib.ListN.{length, get_or, length-append, length-drop, get_or-append}
use lib.Seq.{get_or-drop, get_or-append_seam}
use Rattle.gates.specs.Open.Kind.{kind_count, operands_of, conditional_of, value_of, differ, chosen}
use Rattle.gates.specs.Open.Gate.{Gate, gates_of, numbers_of}
use Rattle.gates.specs.Open.Wires.{wire, value, wires_of, outputs_of}
use Rattle.gates.specs.Open.Board.{Bits}
use Rattle.gates.specs.Open.Test.{good_operand, good_gate, first_bad}
use Rattle.gates.proofs.KindLaws.{each_kind}
use Rattle.gates.proofs.Goodness.{good_gate_lem}
use Rattle.gates.proofs.Stepping.{first_good}
use Rattle.gates.proofs.WireLaws.{wires_keep, same_value}
use Rattle.basics.proofs.Flags.{T_true}

-- The values of the kinds.
pub zero_value : (a b c : ℕ) → value_of 0 a b c ≡ 0
unfolding value_of
zero_value a b c = refl

pub one_value : (a b c : ℕ) → value_of 1 a b c ≡ 1
unfolding value_of
one_value a b c = refl

pub copy_value : (a b c : ℕ) → value_of 2 a b c ≡ a
unfolding value_of
copy_value a b c = refl

pub not_value : (a b c : ℕ) → value_of 3 a b c ≡ 1 - a
unfolding value_of
not_value a b c = refl

pub and_value : (a b c : ℕ) → value_of 4 a b c ≡ min a b
unfolding value_of
and_value a b c = refl

pub or_value : (a b c : ℕ) → value_of 5 a b c ≡ max a b
unfolding value_of
or_value a b c = refl

-- for bits, whether they differ is their sum modulo 2
pub xor_value : (a b c : ℕ) → a ≤ 1 → b ≤ 1 → value_of 6 a b c ≡ (a + b) % 2
unfolding value_of differ
xor_value zero zero c ha hb = refl
xor_value zero (suc zero) c ha hb = refl
xor_value (suc zero) zero c ha hb = refl
xor_value (suc zero) (suc zero) c ha hb = refl
xor_value zero (suc (suc b)) c ha hb = absurd (omega arith)
xor_value (suc zero) (suc (suc b)) c ha hb = absurd (omega arith)
xor_value (suc (suc a)) b c ha hb = absurd (omega arith)

pub mux_value_one : (b c : ℕ) → value_of 7 1 b c ≡ b
unfolding value_of chosen
mux_value_one b c = refl

pub mux_value_zero : (b c : ℕ) → value_of 7 0 b c ≡ c
unfolding value_of chosen
mux_value_zero b c = refl

-- Operand counts and marks of the kinds, as in the table.
pub operand_counts_lem : (operands_of 0 ≡ 0) × (operands_of 1 ≡ 0) × (operands_of 2 ≡ 1) × (operands_of 3 ≡ 1)
    × (operands_of 4 ≡ 2) × (operands_of 5 ≡ 2) × (operands_of 6 ≡ 2) × (operands_of 7 ≡ 3)
unfolding operands_of
operand_counts_lem = (refl, refl, refl, refl, refl, refl, refl, refl)

pub marks : (conditional_of 0 ≡ false) × (conditional_of 1 ≡ false) × (conditional_of 2 ≡ false)
    × (conditional_of 3 ≡ false) × (conditional_of 4 ≡ true) × (conditional_of 5 ≡ true) × (conditional_of 6 ≡ false)
    × (conditional_of 7 ≡ true)
unfolding conditional_of
marks = (refl, refl, refl, refl, refl, refl, refl, refl)

-- Well-formed lists: every gate is good for its own wire, and the first makes wire n.
abbrev pub AllGood : ℕ → List Gate → Type 0
AllGood n [] = Unit {0}
AllGood n (g ∷ gs) = T (good_gate n g) × AllGood (suc n) gs

-- a gate is good if its kind is known, its operands in use name earlier wires, and the others are 0
pub is_good : (n : ℕ) (g : Gate) → g.kind < kind_count → T (good_operand (ltb 0 (operands_of g.kind)) n g.a)
    → T (good_operand (ltb 1 (operands_of g.kind)) n g.b)
    → T (good_operand (ltb 2 (operands_of g.kind)) n g.c) → T (good_gate n g)
unfolding good_gate
is_good n g k a b c =
    let m = operands_of g.kind in
    let x = good_operand (ltb 0 m) n g.a in
    let y = good_operand (ltb 1 m) n g.b in
    let h = ltb g.kind kind_count in
    both (h && x && y) (good_operand (ltb 2 m) n g.c) (both (h && x) y (both h x (lt→ltb g.kind kind_count k) a) b) c
  where
    both : (x y : Bool) → T x → T y → T (x && y)
    both true y p q = q
    both false y p q = absurd p

-- good gates by their number of operands
pub good_none : (n kind : ℕ) → kind < kind_count → operands_of kind ≡ 0 → T (good_gate n (record { kind = kind; a = 0; b = 0; c = 0 }))
unfolding good_operand
good_none n kind k e = is_good n (record { kind = kind; a = 0; b = 0; c = 0 }) k (rw e tt) (rw e tt) (rw e tt)

pub good_one : (n kind a : ℕ) → kind < kind_count → operands_of kind ≡ 1 → a < n → T (good_gate n (record { kind = kind; a = a; b = 0; c = 0 }))
unfolding good_operand
good_one n kind a k e ha = is_good n (record { kind = kind; a = a; b = 0; c = 0 }) k (rw e (lt→ltb a n ha)) (rw e tt) (rw e tt)

pub good_two : (n kind a b : ℕ) → kind < kind_count → operands_of kind ≡ 2 → a < n → b < n
    → T (good_gate n (record { kind = kind; a = a; b = b; c = 0 }))
unfolding good_operand
good_two n kind a b k e ha hb =
    is_good n (record { kind = kind; a = a; b = b; c = 0 }) k (rw e (lt→ltb a n ha)) (rw e (lt→ltb b n hb)) (rw e tt)

pub good_three : (n kind a b c : ℕ) → kind < kind_count → operands_of kind ≡ 3 → a < n → b < n → c < n
    → T (good_gate n (record { kind = kind; a = a; b = b; c = c }))
unfolding good_operand
good_three n kind a b c k e ha hb hc =
    is_good n (record { kind = kind; a = a; b = b; c = c }) k (rw e (lt→ltb a n ha)) (rw e (lt→ltb b n hb))
    (rw e (lt→ltb c n hc))

-- lists put one after the other
pub good_append : (n : ℕ) (gs hs : List Gate) → AllGood n gs → AllGood (n + length gs) hs → AllGood n (gs ++ hs)
good_append n [] hs p q = subst (λ (m : ℕ). AllGood m hs) (add-zero n) q
good_append n (g ∷ gs) hs p q = (p.0, good_append (suc n) gs hs p.1 (subst (λ (m : ℕ). AllGood m hs) (omega arith) q))

-- the test finds no bad gate in such a list
pub none_bad : (inputs g : ℕ) (gs : List Gate) → AllGood (inputs + g) gs → first_bad inputs g gs ≡ None
unfolding first_bad
none_bad inputs g [] p = refl
none_bad inputs g (x ∷ xs) p =
    rw (T_true (good_gate (inputs + g) x) p.0)
    (none_bad inputs (suc g) xs (subst (λ (m : ℕ). AllGood m xs) (sym (add-suc inputs g)) p.1))

pub all_good : (inputs g : ℕ) (gs : List Gate) → first_bad inputs g gs ≡ None → AllGood (inputs + g) gs
all_good inputs g [] e = tt
all_good inputs g (x ∷ xs) e =
    let p = first_good inputs g x xs e in
    (p.0, subst (λ (m : ℕ). AllGood m xs) (add-suc inputs g) (all_good inputs (suc g) xs p.1))

-- Wires: from wire n on, each wire is the value of its gate on those wires.
abbrev pub Holds : (ℕ → ℕ) → ℕ → List Gate → Type 0
Holds w n [] = Unit {0}
Holds w n (g ∷ gs) = (w n ≡ value_of g.kind (w g.a) (w g.b) (w g.c)) × Holds w (suc n) gs

pub holds_append : (w : ℕ → ℕ) (n : ℕ) (gs hs : List Gate) → Holds w n (gs ++ hs) → Holds w n gs × Holds w (n + length gs) hs
holds_append w n [] hs p = (tt, subst (λ (m : ℕ). Holds w m hs) (sym (add-zero n)) p)
holds_append w n (g ∷ gs) hs p =
    let q = holds_append w (suc n) gs hs p.1 in
    ((p.0, q.0), subst (λ (m : ℕ). Holds w m hs) (omega arith) q.1)

-- the first gate's wire is its value on the final wires
first_holds : (ws : List ℕ) (g : Gate) (gs : List Gate) → T (good_gate (length ws) g)
    → wire (wires_of (ws ++ (value ws g ∷ [])) gs) (length ws) ≡ value (wires_of (ws ++ (value ws g ∷ [])) gs) g
unfolding wire
first_holds ws g gs t =
    let next = ws ++ (value ws g ∷ []) in
    let long = length-append ws (value ws g ∷ []) in
    wires_keep next gs (length ws) (omega arith) ∙ get_or-append_seam ws (value ws g) [] 0
    ∙ same_value ws (wires_of next gs) (length ws) g (good_gate_lem (length ws) g t)
    (λ (i : ℕ) (h : i < length ws). sym (wires_keep next gs i (omega arith) ∙ get_or-append ws (value ws g ∷ []) 0 i h))

-- For a well-formed list with final wires W, W at I + g is the value of gate g on W.
pub wires_hold : (ws : List ℕ) (gs : List Gate) → AllGood (length ws) gs → Holds (wire (wires_of ws gs)) (length ws) gs
unfolding wires_of value
wires_hold ws [] p = tt
wires_hold ws (g ∷ gs) p =
    let next = ws ++ (value ws g ∷ []) in
    let long : length next ≡ suc (length ws) = omega (arith, length-append ws (value ws g ∷ [])) in (
      first_holds ws g gs p.0,
      subst (λ (m : ℕ). Holds (wire (wires_of next gs)) m gs) long
          (wires_hold next gs (subst (λ (m : ℕ). AllGood m gs) (sym long) p.1)),
    )

-- The inputs are the first wires.
pub wires_start : (ws : List ℕ) (gs : List Gate) (i : ℕ) → i < length ws → wire (wires_of ws gs) i ≡ get_or ws i 0
unfolding wire
wires_start ws gs i h = wires_keep ws gs i h

-- Output i is W at I + G − outputs + i.
pub output_is : (k : ℕ) (ws : List ℕ) (i : ℕ) → get_or (outputs_of k ws) i 0 ≡ wire ws (length ws - k + i)
unfolding outputs_of wire
output_is k ws i = get_or-drop (length ws - k) ws i 0

pub length_outputs : (k : ℕ) (ws : List ℕ) → k ≤ length ws → length (outputs_of k ws) ≡ k
unfolding outputs_of
length_outputs k ws h = omega (arith, length-drop (length ws - k) ws)

-- Wires are bits if the inputs are.
pub bit_value : (k a b c : ℕ) → k < kind_count → a ≤ 1 → b ≤ 1 → c ≤ 1 → value_of k a b c ≤ 1
unfolding value_of differ chosen
bit_value k a b c h ha hb hc =
    each_kind (λ (k : ℕ). value_of k a b c ≤ 1) (omega arith) (omega arith) ha (omega arith) (omega arith)
    (omega arith) (either (eqb a b) 0 1 (omega arith) (omega arith)) (either (eqb a 0) c b hc hb) k h
  where
    either : (t : Bool) (x y : ℕ) → x ≤ 1 → y ≤ 1 → cond t x y ≤ 1
    either true x y p q = p
    either false x y p q = q

bits_more : (ws : List ℕ) (v : ℕ) → Bits ws → v ≤ 1 → Bits (ws ++ (v ∷ []))
bits_more [] v p q zero = q
bits_more [] v p q (suc i) = omega arith
bits_more (w ∷ ws) v p q zero = p 0
bits_more (w ∷ ws) v p q (suc i) = bits_more ws v (λ (j : ℕ). p (suc j)) q i

pub wires_bits : (ws : List ℕ) (gs : List Gate) → AllGood (length ws) gs → Bits ws → Bits (wires_of ws gs)
unfolding wires_of value wire
wires_bits ws [] p b = b
wires_bits ws (g ∷ gs) p b =
    let next = ws ++ (value ws g ∷ []) in
    let long : length next ≡ suc (length ws) = omega (arith, length-append ws (value ws g ∷ [])) in
    let bit = bit_value g.kind (get_or ws g.a 0) (get_or ws g.b 0) (get_or ws g.c 0)
    (good_gate_lem (length ws) g p.0).known (b g.a) (b g.b) (b g.c) in
    wires_bits next gs (subst (λ (m : ℕ). AllGood m gs) (sym long) p.1) (bits_more ws (value ws g) b bit)

pub wire_bit : (ws : List ℕ) → Bits ws → (i : ℕ) → wire ws i ≤ 1
unfolding wire
wire_bit ws b i = b i

-- Reading back a table that was written, also if it is the first part of a longer one.
pub read_back : (gs : List Gate) (rest : List ℕ) → gates_of (numbers_of gs ++ rest) ≡ gs ++ gates_of rest
unfolding gates_of numbers_of
read_back [] rest = refl
read_back (g ∷ gs) rest = ap (λ (l : List Gate). g ∷ l) (read_back gs rest)

pub read_whole : (gs : List Gate) → gates_of (numbers_of gs) ≡ gs
unfolding gates_of
read_whole gs = ap gates_of (sym (append-nil (numbers_of gs))) ∙ read_back gs [] ∙ append-nil gs

pub length_numbers : (gs : List Gate) → length (numbers_of gs) ≡ 4 * length gs
unfolding numbers_of
length_numbers [] = refl
length_numbers (g ∷ gs) = omega (arith, length_numbers gs)

pub numbers_append : (gs hs : List Gate) → numbers_of (gs ++ hs) ≡ numbers_of gs ++ numbers_of hs
unfolding numbers_of
numbers_append [] hs = refl
numbers_append (g ∷ gs) hs = ap (λ (l : List ℕ). g.kind ∷ g.a ∷ g.b ∷ g.c ∷ l) (numbers_append gs hs)

pub numbers_nil : numbers_of [] ≡ []
unfolding numbers_of
numbers_nil = refl

pub numbers_one : (g : Gate) → numbers_of (g ∷ []) ≡ g.kind ∷ g.a ∷ g.b ∷ g.c ∷ []
unfolding numbers_of
numbers_one g = refl

-- The multiplexer with a known selector.
pub mux_zero : (x b c : ℕ) → x ≡ 0 → value_of 7 x b c ≡ c
mux_zero x b c e = ap (λ (y : ℕ). value_of 7 y b c) e ∙ mux_value_zero b c

pub mux_one : (x b c : ℕ) → x ≡ 1 → value_of 7 x b c ≡ b
mux_one x b c e = ap (λ (y : ℕ). value_of 7 y b c) e ∙ mux_value_one b c

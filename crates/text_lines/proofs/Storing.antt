-- Characters stored one after the other: a number, an operand, a line.
-- Assumes nothing.
use mathlib.Core.Path.{◌≡◌, ◌∙◌, sym, ap}
use mathlib.Core.Bool.{Bool, true, false, cond}
use mathlib.Core.List.{List, [], ◌∷◌, ◌++◌}
use Prim.Native.Nat.{ℕ, zero, suc, ◌+◌, ◌*◌, ◌/◌, ◌%◌, ◌≤◌, ◌<◌}
use native.Mathlib.Nat.{add-zero}
use native.Mathlib.Omega.{arith}
use lib.Dec.{ltb}
use lib.ListN.{length, set, length-append}
use lib.Seq.{sets, set_comm, length-sets}
use Rattle.gates.specs.Kind.{operands_of}
use Rattle.gates.specs.Gate.{Gate}
use Rattle.text_lines.specs.Decimal.{decimal_within, decimal}
use Rattle.text_lines.specs.Line.{operand_text, line_of}
use Rattle.text_lines.specs.inner.Stored.{Stored}
use Rattle.text_lines.proofs.DecimalLaws.{decimal_one, decimal_more}

-- storing xs and then ys after them is storing xs ++ ys
pub sets_append : (l : List ℕ) (at : ℕ) (xs ys : List ℕ) → sets l at (xs ++ ys) ≡ sets (sets l at xs) (at + length xs) ys
sets_append l at [] ys = ap (λ (k : ℕ). sets l k ys) (sym (add-zero at))
sets_append l at (x ∷ xs) ys =
    let e : suc at + length xs ≡ at + suc (length xs) = omega arith in
    sets_append (set l at x) (suc at) xs ys ∙ ap (λ (k : ℕ). sets (sets (set l at x) (suc at) xs) k ys) e

-- the character after xs may be stored before xs
pub sets_behind : (l : List ℕ) (at : ℕ) (xs : List ℕ) (d : ℕ) → sets (set l (at + length xs) d) at xs ≡ sets l at (xs ++ d ∷ [])
sets_behind l at [] d = ap (λ (k : ℕ). set l k d) (add-zero at)
sets_behind l at (x ∷ xs) d =
    let e : at + suc (length xs) ≡ suc at + length xs = omega arith in
    ap (λ (r : List ℕ). sets r (suc at) xs) (set_comm l (at + suc (length xs)) at d x (λ (q : at + suc (length xs) ≡ at). omega arith))
    ∙ ap (λ (k : ℕ). sets (set (set l at x) k d) (suc at) xs) e
    ∙ sets_behind (set l at x) (suc at) xs d

-- the digits of a number from 10 on: those of its tenth, then the last digit
decimal_tenth : (n : ℕ) → 10 ≤ n → n ≤ 4294967295 → decimal n ≡ decimal (n / 10) ++ (48 + n % 10) ∷ []
decimal_tenth n h fits =
    let e : 10 * (n / 10) + n % 10 ≡ n = omega arith in
    ap decimal (sym e) ∙ decimal_more (n / 10) (n % 10) (omega arith) (omega arith) (omega arith)

pub length_tenth : (n : ℕ) → 10 ≤ n → n ≤ 4294967295 → length (decimal n) ≡ suc (length (decimal (n / 10)))
length_tenth n h fits = omega (arith, ap length (decimal_tenth n h fits), length-append (decimal (n / 10)) ((48 + n % 10) ∷ []))

-- the last digit may be stored first
pub store_last : (l : List ℕ) (at i n d : ℕ) → 10 ≤ n → n ≤ 4294967295 → d ≡ 48 + n % 10 → suc i
    ≡ at + length (decimal n) → sets (set l i d) at (decimal (n / 10)) ≡ sets l at (decimal n)
store_last l at i n d h fits e p =
    let q : i ≡ at + length (decimal (n / 10)) = omega (arith, length_tenth n h fits) in
    ap (λ (k : ℕ). sets (set l k d) at (decimal (n / 10))) q
    ∙ ap (λ (x : ℕ). sets (set l (at + length (decimal (n / 10))) x) at (decimal (n / 10))) e
    ∙ sets_behind l at (decimal (n / 10)) (48 + n % 10)
    ∙ ap (sets l at) (sym (decimal_tenth n h fits))

pub store_first : (l : List ℕ) (at i n d : ℕ) → n < 10 → d ≡ 48 + n → suc i ≡ at + length (decimal n) → set l i d ≡ sets l at (decimal n)
store_first l at i n d h e p =
    let q : i ≡ at = omega (arith, ap length (decimal_one n h)) in
    ap (λ (k : ℕ). set l k d) q ∙ ap (set l at) e ∙ ap (sets l at) (sym (decimal_one n h))

-- Storing keeps the length of the text, and storing twice in a row is storing once.
pub stored_long : {l : List ℕ} {at : ℕ} {xs r : List ℕ} {e : ℕ} → Stored l at xs r e → length r ≡ length l
stored_long {l} {at} {xs} s = ap length s.is ∙ length-sets l at xs

pub stored_then : {l : List ℕ} {at : ℕ} {xs r : List ℕ} {e : ℕ} → Stored l at xs r e → {ys r' : List ℕ} {e' : ℕ}
    → Stored r e ys r' e' → Stored l at (xs ++ ys) r' e'
stored_then {l} {at} {xs} {r} {e} s {ys} {r'} {e'} more =
    record {
      is = more.is ∙ ap (λ (t : List ℕ). sets t e ys) s.is ∙ ap (λ (k : ℕ). sets (sets l at xs) k ys) s.next
          ∙ sym (sets_append l at xs ys);
      next = omega (arith, s.next, more.next, length-append xs ys);
    }

-- Bounds for the lengths of numbers, operands and lines.
digits_most : (f n : ℕ) → length (decimal_within f n) ≤ f
unfolding decimal_within
digits_most zero n = omega arith
digits_most (suc f) n = by (ltb n 10) (digits_most f (n / 10))
  where
    by : (t : Bool) → length (decimal_within f (n / 10)) ≤ f
        → length (cond t ((48 + n) ∷ []) (decimal_within f (n / 10) ++ (48 + n % 10) ∷ [])) ≤ suc f
    by true ih = omega arith
    by false ih = omega (arith, length-append (decimal_within f (n / 10)) ((48 + n % 10) ∷ []))

pub decimal_most : (n : ℕ) → length (decimal n) ≤ 10
unfolding decimal
decimal_most n = digits_most 10 n

pub text_unused : (used : Bool) (n : ℕ) → used ≡ false → operand_text used n ≡ []
unfolding operand_text
text_unused used n e = rw e

pub text_used : (used : Bool) (n : ℕ) → used ≡ true → operand_text used n ≡ 32 ∷ decimal n
unfolding operand_text
text_used used n e = rw e

pub operand_most : (used : Bool) (n : ℕ) → length (operand_text used n) ≤ 11
unfolding operand_text
operand_most true n = omega (arith, decimal_most n)
operand_most false n = omega arith

-- a line whose kind uses m operands
pub line_with : ℕ → Gate → List ℕ
line_with m g = decimal g.kind ++ operand_text (ltb 0 m) g.a ++ operand_text (ltb 1 m) g.b ++ operand_text (ltb 2 m) g.c ++ 10 ∷ []

pub line_with_lem : (m : ℕ) (g : Gate) → m ≡ operands_of g.kind → decimal g.kind ++ operand_text (ltb 0 m) g.a
    ++ operand_text (ltb 1 m) g.b ++ operand_text (ltb 2 m) g.c ++ 10 ∷ [] ≡ line_of g
unfolding line_of line_with
line_with_lem m g e = ap (λ (x : ℕ). line_with x g) e

pub line_long : (m : ℕ) (g : Gate) → m ≡ operands_of g.kind
    → length (line_of g) ≡ length (decimal g.kind) + length (operand_text (ltb 0 m) g.a)
    + length (operand_text (ltb 1 m) g.b) + length (operand_text (ltb 2 m) g.c) + 1
line_long m g e =
    let d = decimal g.kind in
    let x = operand_text (ltb 0 m) g.a in
    let y = operand_text (ltb 1 m) g.b in
    let z = operand_text (ltb 2 m) g.c in
    omega (
      arith,
      ap length (line_with_lem m g e),
      length-append (d ++ x ++ y ++ z) (10 ∷ []),
      length-append (d ++ x ++ y) z,
      length-append (d ++ x) y,
      length-append d x,
    )

-- A text and its lines: if the text starts with a gate's line, that is its first line; if not, its first line is
-- malformed.
-- Assumes nothing.
use mathlib.Core.Path.{◌≡◌, ◌∙◌, refl, sym, ap}
use mathlib.Core.Bool.{Bool, true, false, cond}
use mathlib.Core.Option.{Option, none, some, none-ne-some}
use mathlib.Core.List.{List, [], ◌∷◌, ◌++◌, append_assoc, flatten}
use Prim.Native.Nat.{ℕ, zero, suc, ◌+◌, ◌/◌, ◌%◌, ◌<◌}
use native.Mathlib.Omega.{arith}
use lib.Dec.{ltb, eqb}
use lib.ListN.{length, length-append}
use borrow.Author.Tests.{ne_eqb}
use Rattle.gates.specs.Kind.{operands_of}
use Rattle.gates.specs.Gate.{Gate}
use Rattle.std.specs.Prelude.{Some}
use Rattle.text_lines.specs.Decimal.{decimal_within, decimal, Taken}
use Rattle.text_lines.specs.Line.{operand_text, line_of, gate_in, gate_of}
use Rattle.text.specs.Text.{in_front, lines_of, malformed_at, first_malformed, gate_before, gates_in}
use Rattle.text_lines.proofs.LineLaws.{Writable, read_line, wrote_line, line_read, line_wrote}

-- there is no line feed among these characters
abbrev NoFeed : List ℕ → Type 0
NoFeed [] = Unit {0}
NoFeed (c ∷ cs) = (eqb c 10 ≡ false) × NoFeed cs

no_feed_append : (xs ys : List ℕ) → NoFeed xs → NoFeed ys → NoFeed (xs ++ ys)
no_feed_append [] ys p q = q
no_feed_append (x ∷ xs) ys p q = (p.0, no_feed_append xs ys p.1 q)

no_feed_digit : (d : ℕ) → eqb (48 + d) 10 ≡ false
no_feed_digit d = ne_eqb (48 + d) 10 (λ (e : 48 + d ≡ 10). omega arith)

no_feed_decimal : (f n : ℕ) → NoFeed (decimal_within f n)
unfolding decimal_within
no_feed_decimal zero n = tt
no_feed_decimal (suc f) n = by (ltb n 10) (no_feed_decimal f (n / 10))
  where
    by : (t : Bool) → NoFeed (decimal_within f (n / 10)) → NoFeed (cond t ((48 + n) ∷ []) (decimal_within f (n / 10) ++ (48 + n % 10) ∷ []))
    by true ih = (no_feed_digit n, tt)
    by false ih = no_feed_append (decimal_within f (n / 10)) ((48 + n % 10) ∷ []) ih (no_feed_digit (n % 10), tt)

no_feed_operand : (used : Bool) (x : ℕ) → NoFeed (operand_text used x)
unfolding operand_text decimal
no_feed_operand true x = (refl, no_feed_decimal 10 x)
no_feed_operand false x = tt

-- a line without its line feed
front : Gate → List ℕ
front g =
    decimal g.kind ++ operand_text (ltb 0 (operands_of g.kind)) g.a
    ++ operand_text (ltb 1 (operands_of g.kind)) g.b
    ++ operand_text (ltb 2 (operands_of g.kind)) g.c

front_line : (g : Gate) → line_of g ≡ front g ++ 10 ∷ []
unfolding front line_of
front_line g = refl

no_feed_front : (g : Gate) → NoFeed (front g)
unfolding front decimal
no_feed_front g =
    let n = operands_of g.kind in
    let d = decimal g.kind in
    let ta = operand_text (ltb 0 n) g.a in
    let tb = operand_text (ltb 1 n) g.b in
    let tc = operand_text (ltb 2 n) g.c in
    no_feed_append (d ++ ta ++ tb) tc
    (no_feed_append (d ++ ta) tb (no_feed_append d ta (no_feed_decimal 10 g.kind)
    (no_feed_operand (ltb 0 n) g.a)) (no_feed_operand (ltb 1 n) g.b))
    (no_feed_operand (ltb 2 n) g.c)

-- characters without a line feed and then a line feed are one line
lines_front : (w rest : List ℕ) → NoFeed w → lines_of (w ++ 10 ∷ rest) ≡ (w ++ 10 ∷ []) ∷ lines_of rest
unfolding lines_of in_front
lines_front [] rest p = refl
lines_front (c ∷ w) rest p = rw p.0 (ap (in_front c) (lines_front w rest p.1))

-- the first line of a text that starts with a gate's line
pub lines_cons : (g : Gate) (rest : List ℕ) → lines_of (line_of g ++ rest) ≡ line_of g ∷ lines_of rest
lines_cons g rest =
    ap (λ (l : List ℕ). lines_of (l ++ rest)) (front_line g)
    ∙ ap lines_of (append_assoc (front g) (10 ∷ []) rest)
    ∙ lines_front (front g) rest (no_feed_front g)
    ∙ ap (λ (l : List ℕ). l ∷ lines_of rest) (sym (front_line g))

-- the lines joined together are the text
flatten_front : (c : ℕ) (ls : List (List ℕ)) → flatten (in_front c ls) ≡ c ∷ flatten ls
unfolding in_front flatten
flatten_front c [] = refl
flatten_front c (l ∷ ls) = refl

pub flatten_lines : (cs : List ℕ) → flatten (lines_of cs) ≡ cs
unfolding lines_of flatten
flatten_lines [] = refl
flatten_lines (c ∷ cs) = by (eqb c 10) (flatten_lines cs)
  where
    by : (t : Bool) → flatten (lines_of cs) ≡ cs → flatten (cond t ((c ∷ []) ∷ lines_of cs) (in_front c (lines_of cs))) ≡ c ∷ cs
    by true ih = ap (λ (l : List ℕ). c ∷ l) ih
    by false ih = flatten_front c (lines_of cs) ∙ ap (λ (l : List ℕ). c ∷ l) ih

-- a text that is not empty has a line
pub record FirstLine (cs : List ℕ) : Type 0 where
  pub line : List ℕ
  pub later : List (List ℕ)
  pub is : lines_of cs ≡ line ∷ later

pub first_line : (c : ℕ) (cs : List ℕ) → FirstLine (c ∷ cs)
unfolding lines_of
first_line c cs = by (eqb c 10) refl
  where
    in_front_lem : (ls : List (List ℕ)) → lines_of (c ∷ cs) ≡ in_front c ls → FirstLine (c ∷ cs)
    in_front_lem [] e = record { line = c ∷ []; later = []; is = e ∙ unfold in_front in refl }
    in_front_lem (l ∷ ls) e = record { line = c ∷ l; later = ls; is = e ∙ unfold in_front in refl }

    by : (t : Bool) → eqb c 10 ≡ t → FirstLine (c ∷ cs)
    by true e = record { line = c ∷ []; later = lines_of cs; is = rw e }
    by false e = in_front_lem (lines_of cs) (rw e)

-- If a gate is read at the start of a text, its line is the first line.
pub record GateFirst (cs : List ℕ) (t : Taken Gate) : Type 0 where
  pub lines : lines_of cs ≡ line_of t.value ∷ lines_of t.rest
  pub reads : gate_of (line_of t.value) ≡ some t.value
  pub writable : Writable t.value
  pub shorter : length t.rest < length cs

pub gate_first : (cs : List ℕ) (t : Taken Gate) → gate_in cs ≡ some t → GateFirst cs t
gate_first cs t e =
    let w = wrote_line cs t e in
    let n = ap length w.is in
    let m = length-append (line_of t.value) t.rest in
    let f = ap length (front_line t.value) in
    let k = length-append (front t.value) (10 ∷ []) in
    record {
      lines = ap lines_of w.is ∙ lines_cons t.value t.rest;
      reads = line_read t.value w.writable;
      writable = w.writable;
      shorter = omega arith;
    }

pub record OtherFirst (cs : List ℕ) : Type 0 where
  pub line : List ℕ
  pub later : List (List ℕ)
  pub lines : lines_of cs ≡ line ∷ later
  pub reads : gate_of line ≡ none

pub other_first : (c : ℕ) (cs : List ℕ) → gate_in (c ∷ cs) ≡ none → OtherFirst (c ∷ cs)
unfolding flatten
other_first c cs e = by (gate_of f.line) refl
  where
    f : FirstLine (c ∷ cs)
    f = first_line c cs

    by : (o : Option Gate) → gate_of f.line ≡ o → OtherFirst (c ∷ cs)
    by none q = record { line = f.line; later = f.later; lines = f.is; reads = q }
    by (some g) q =
        let w = line_wrote f.line g q in
        let whole : c ∷ cs ≡ line_of g ++ flatten f.later = sym (flatten_lines (c ∷ cs)) ∙ ap flatten f.is
        ∙ ap (λ (l : List ℕ). l ++ flatten f.later) w.1 in
        absurd (none-ne-some (record { value = g; rest = flatten f.later })
        (sym e ∙ ap gate_in whole ∙ read_line g (flatten f.later) w.0))

-- The first malformed line, and the gates, line by line.
pub other_here : (i : ℕ) (cs : List ℕ) (o : OtherFirst cs) → first_malformed i (lines_of cs) ≡ Some i
unfolding first_malformed malformed_at
other_here i cs o = ap (first_malformed i) o.lines ∙ rw o.reads

pub other_later : (i : ℕ) (cs : List ℕ) (t : Taken Gate) → gate_in cs ≡ some t → first_malformed i (lines_of cs)
    ≡ first_malformed (suc i) (lines_of t.rest)
unfolding first_malformed malformed_at
other_later i cs t e = let f = gate_first cs t e in ap (first_malformed i) f.lines ∙ rw f.reads

pub gates_cons : (cs : List ℕ) (t : Taken Gate) → gate_in cs ≡ some t → gates_in (lines_of cs) ≡ t.value ∷ gates_in (lines_of t.rest)
unfolding gates_in gate_before
gates_cons cs t e = let f = gate_first cs t e in ap gates_in f.lines ∙ rw f.reads

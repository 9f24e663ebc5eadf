-- A text line by line: what the line at a place says about the lines from there on.
-- Assumes nothing.
use mathlib.Core.Path.{◌≡◌, ◌∙◌, refl, sym, ap}
use mathlib.Core.Bool.{Bool, true, false, cond, ◌&&◌}
use mathlib.Core.Option.{Option, none, some}
use mathlib.Core.List.{List, [], ◌∷◌}
use Prim.Native.Nat.{ℕ, suc, ◌+◌, ◌-◌, ◌≤◌, ◌<◌}
use native.Mathlib.Omega.{arith}
use lib.Dec.{ltb, eqb}
use lib.ListN.{length, get_or, drop, length-drop, drop_of_length-le}
use lib.Seq.{drop-cons}
use borrow.Author.Tests.{eq-eqb, ne_eqb}
use Rattle.gates.specs.Gate.{Gate}
use Rattle.gates.specs.Test.{good_gate, first_bad}
use Rattle.std.specs.Prelude as rust
use Rattle.std.specs.Prelude.{Some, None, count_by}
use Rattle.std.proofs.lemmas.List.Recursion.{is_count_by}
use Rattle.gates.proofs.Reading.{first_bad_nil, first_bad_cons, good_by}
use Rattle.text_lines.specs.Decimal.{taken}
use Rattle.text_lines.specs.Line.{gate_in, gate_of}
use Rattle.text.specs.Text.{in_front, lines_of, malformed_at, first_malformed, gates_in}
use Rattle.text_lines.specs.inner.Found.{line_found, LineRead}
use Rattle.text_lines.specs.declared.line.Line.{Line}
use Rattle.text.proofs.TextLaws.{gate_first, other_first, other_here, other_later, gates_cons, first_line}

module _ (text : List ℕ) (at : ℕ) (l : Line) (reads : LineRead text (gate_in (drop at text)) (Some l)) where
  gate_here : gate_in (drop at text) ≡ taken l.gate (drop l.next text)
  unfolding line_found
  gate_here = sym reads.found

  pub next_within : l.next ≤ length text
  next_within = reads.within

  pub next_later : at < l.next
  next_later =
      let f = (gate_first (drop at text) (record { value = l.gate; rest = drop l.next text }) gate_here).shorter in
      omega (arith, length-drop l.next text, length-drop at text, next_within)

  pub later_other : (i : ℕ) → first_malformed i (lines_of (drop at text)) ≡ first_malformed (suc i) (lines_of (drop l.next text))
  later_other i = other_later i (drop at text) (record { value = l.gate; rest = drop l.next text }) gate_here

  pub later_gates : gates_in (lines_of (drop at text)) ≡ l.gate ∷ gates_in (lines_of (drop l.next text))
  later_gates = gates_cons (drop at text) (record { value = l.gate; rest = drop l.next text }) gate_here

  pub later_lines : length (lines_of (drop at text)) ≡ suc (length (lines_of (drop l.next text)))
  later_lines = ap length (gate_first (drop at text) (record { value = l.gate; rest = drop l.next text }) gate_here).lines

  -- a gate that was read is good exactly if all its operands are below its own wire
  pub good_here : (own : ℕ) → 0 < own → good_gate own l.gate ≡ (ltb l.gate.a own && ltb l.gate.b own && ltb l.gate.c own)
  good_here own pos =
      let w = (gate_first (drop at text) (record { value = l.gate; rest = drop l.next text }) gate_here).writable in
      good_by own l.gate pos w.known
      (record { a_zero = w.a_holds.unused; b_zero = w.b_holds.unused; c_zero = w.c_holds.unused })

  module _ (inputs i : ℕ) (pos : 0 < inputs) (t : Bool)
      (e : t ≡ (ltb l.gate.a (inputs + i) && ltb l.gate.b (inputs + i) && ltb l.gate.c (inputs + i))) where
    bad_from : first_bad inputs i (gates_in (lines_of (drop at text)))
        ≡ cond t (first_bad inputs (suc i) (gates_in (lines_of (drop l.next text)))) (Some i)
    bad_from =
        ap (first_bad inputs i) later_gates ∙ first_bad_cons inputs i l.gate (gates_in (lines_of (drop l.next text)))
        ∙ ap (λ (u : Bool). cond u (first_bad inputs (suc i) (gates_in (lines_of (drop l.next text)))) (Some i))
        (good_here (inputs + i) (omega arith) ∙ sym e)

    pub later_good : t ≡ true → first_bad inputs i (gates_in (lines_of (drop at text)))
        ≡ first_bad inputs (suc i) (gates_in (lines_of (drop l.next text)))
    later_good g = rw g at bad_from

    pub here_bad : t ≡ false → first_bad inputs i (gates_in (lines_of (drop at text))) ≡ Some i
    here_bad g = rw g at bad_from

pub here_other : (text : List ℕ) (at : ℕ) → LineRead text (gate_in (drop at text)) None → at < length text → (i : ℕ)
    → first_malformed i (lines_of (drop at text)) ≡ Some i
unfolding line_found
here_other text at reads h i =
    let q : drop at text ≡ get_or text at 0 ∷ drop (suc at) text = drop-cons text at 0 h in
    let n : gate_in (get_or text at 0 ∷ drop (suc at) text) ≡ none = ap gate_in (sym q) ∙ sym reads.found in
    ap (λ (l : List ℕ). first_malformed i (lines_of l)) q
    ∙ other_here i (get_or text at 0 ∷ drop (suc at) text) (other_first (get_or text at 0) (drop (suc at) text) n)

-- past the last character
module _ (text : List ℕ) (at : ℕ) (h : length text ≤ at) where
  pub other_end : (i : ℕ) → first_malformed i (lines_of (drop at text)) ≡ None
  unfolding first_malformed lines_of
  other_end i = rw (drop_of_length-le text {i = at} h)

  pub gates_end : gates_in (lines_of (drop at text)) ≡ []
  unfolding gates_in lines_of
  gates_end = rw (drop_of_length-le text {i = at} h)

  pub bad_end : (inputs i : ℕ) → first_bad inputs i (gates_in (lines_of (drop at text))) ≡ None
  bad_end inputs i = ap (first_bad inputs i) gates_end ∙ first_bad_nil inputs i

-- a place is found or not, never both
pub not_both : {P : Type 0} (o : rust.Option ℕ) (i : ℕ) → o ≡ Some i → o ≡ None → P
not_both o i p q = let z : ◌≡◌ {A = ℕ} 0 1 = cc in absurd (omega arith)

-- whether all lines are gates does not depend on the number of the first line
pub nowhere_any : (ls : List (List ℕ)) (i j : ℕ) → first_malformed i ls ≡ None → first_malformed j ls ≡ None
unfolding first_malformed malformed_at
nowhere_any [] i j e = refl
nowhere_any (l ∷ ls) i j e = by (gate_of l) e (nowhere_any ls (suc i) (suc j))
  where
    by : (o : Option Gate) → malformed_at o i (first_malformed (suc i) ls) ≡ None
        → (first_malformed (suc i) ls ≡ None → first_malformed (suc j) ls ≡ None)
        → malformed_at o j (first_malformed (suc j) ls) ≡ None
    by none e ih = let z : ◌≡◌ {A = ℕ} 0 1 = cc in absurd (omega arith)
    by (some g) e ih = ih e

-- The number of lines: the line feeds, plus one if characters follow the last of them.
pub feeds : List ℕ → ℕ
feeds [] = 0
feeds (c ∷ cs) = cond (eqb c 10) (1 + feeds cs) (feeds cs)

open_end : List ℕ → ℕ
open_end [] = 0
open_end (c ∷ []) = cond (eqb c 10) 0 1
open_end (c ∷ d ∷ cs) = open_end (d ∷ cs)

length_front : (c : ℕ) (cs : List ℕ) (d : ℕ) → length (in_front c (lines_of (d ∷ cs))) ≡ length (lines_of (d ∷ cs))
unfolding in_front
length_front c cs d = let f = first_line d cs in ap (λ (ls : List (List ℕ)). length (in_front c ls)) f.is ∙ sym (ap length f.is)

lines_are : (cs : List ℕ) → length (lines_of cs) ≡ feeds cs + open_end cs
unfolding lines_of feeds open_end in_front
lines_are [] = refl
lines_are (c ∷ []) = by (eqb c 10)
  where
    by : (t : Bool) → length (cond t ((c ∷ []) ∷ []) ((c ∷ []) ∷ [])) ≡ cond t 1 0 + cond t 0 1
    by true = refl
    by false = refl
lines_are (c ∷ d ∷ cs) = by (eqb c 10) (lines_are (d ∷ cs))
  where
    by : (t : Bool) → length (lines_of (d ∷ cs)) ≡ feeds (d ∷ cs) + open_end (d ∷ cs)
        → length (cond t ((c ∷ []) ∷ lines_of (d ∷ cs)) (in_front c (lines_of (d ∷ cs))))
        ≡ cond t (1 + feeds (d ∷ cs)) (feeds (d ∷ cs)) + open_end (d ∷ cs)
    by true ih = omega arith
    by false ih = length_front c cs d ∙ ih

last_is : (c : ℕ) (cs : List ℕ) → open_end (c ∷ cs) ≡ cond (eqb (get_or (c ∷ cs) (length cs) 0) 10) 0 1
unfolding open_end
last_is c [] = refl
last_is c (d ∷ cs) = last_is d cs

-- the program's count
pub feeds_counted : (text : List ℕ) → count_by (λ x. eqb x 10) text ≡ feeds text
unfolding feeds
feeds_counted text = sym (is_count_by feeds (λ x. eqb x 10) refl (λ x xs. refl) text)

pub no_lines : (text : List ℕ) → length text ≡ 0 → length (lines_of text) ≡ 0
unfolding lines_of
no_lines [] h = refl
no_lines (c ∷ cs) h = absurd (omega arith)

pub closed_lines : (text : List ℕ) → 0 < length text → get_or text (length text - 1) 0 ≡ 10 → length (lines_of text) ≡ feeds text
closed_lines [] p q = absurd (omega arith)
closed_lines (c ∷ cs) p q =
    let k : suc (length cs) - 1 ≡ length cs = omega arith in
    let f : open_end (c ∷ cs) ≡ 0 = last_is c cs
    ∙ rw (eq-eqb (get_or (c ∷ cs) (length cs) 0) 10 (ap (λ (j : ℕ). get_or (c ∷ cs) j 0) (sym k) ∙ q)) in
    omega (arith, lines_are (c ∷ cs))

pub open_lines : (text : List ℕ) → 0 < length text → (get_or text (length text - 1) 0 ≡ 10 → ⊥) → length (lines_of text) ≡ feeds text + 1
open_lines [] p q = absurd (omega arith)
open_lines (c ∷ cs) p q =
    let k : suc (length cs) - 1 ≡ length cs = omega arith in
    let f : open_end (c ∷ cs) ≡ 1 = last_is c cs
    ∙ rw (ne_eqb (get_or (c ∷ cs) (length cs) 0) 10 (λ x. q (ap (λ (j : ℕ). get_or (c ∷ cs) j 0) k ∙ x))) in
    omega (arith, lines_are (c ∷ cs))

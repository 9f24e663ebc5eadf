-- Whole texts: the text of writable gates has their lines, and lines that are all gates are the text of those gates.
-- Assumes nothing.
use mathlib.Core.Path.{◌≡◌, ◌∙◌, refl, sym, ap}
use mathlib.Core.Option.{Option, none, some}
use mathlib.Core.List.{List, [], ◌∷◌, ◌++◌, flatten}
use Prim.Native.Nat.{ℕ, suc, ◌+◌, ◌≤◌}
use native.Mathlib.Omega.{arith}
use lib.Dec.{T}
use lib.ListN.{length}
use Rattle.gates.specs.Gate.{Gate}
use Rattle.gates.specs.Test.{good_gate}
use Rattle.std.specs.Prelude.{None}
use Rattle.gates.proofs.Laws.{AllGood}
use Rattle.gates.proofs.Goodness.{good_gate_lem}
use Rattle.gates.proofs.Reading.{good_unused}
use Rattle.text_lines.specs.Line.{line_of, gate_of}
use Rattle.text.specs.Text.{text_of, lines_of, malformed_at, first_malformed, gate_before, gates_in}
use Rattle.text_lines.proofs.LineLaws.{Writable, line_read, line_wrote}
use Rattle.text.proofs.TextLaws.{lines_cons, flatten_lines}

-- if all lines are gates, there are as many gates as lines, and the lines are the text of those gates
pub gates_many : (ls : List (List ℕ)) (i : ℕ) → first_malformed i ls ≡ None → length (gates_in ls) ≡ length ls
unfolding first_malformed malformed_at gates_in gate_before
gates_many [] i e = refl
gates_many (l ∷ ls) i e = by (gate_of l) e (gates_many ls (suc i))
  where
    by : (o : Option Gate) → malformed_at o i (first_malformed (suc i) ls) ≡ None
        → (first_malformed (suc i) ls ≡ None → length (gates_in ls) ≡ length ls)
        → length (gate_before o (gates_in ls)) ≡ suc (length ls)
    by none e ih = let z : ◌≡◌ {A = ℕ} 0 1 = cc in absurd (omega arith)
    by (some g) e ih = ap suc (ih e)

lines_text : (ls : List (List ℕ)) (i : ℕ) → first_malformed i ls ≡ None → flatten ls ≡ text_of (gates_in ls)
unfolding first_malformed malformed_at gates_in gate_before text_of flatten
lines_text [] i e = refl
lines_text (l ∷ ls) i e = by (gate_of l) refl e (lines_text ls (suc i))
  where
    by : (o : Option Gate) → gate_of l ≡ o → malformed_at o i (first_malformed (suc i) ls) ≡ None
        → (first_malformed (suc i) ls ≡ None → flatten ls ≡ text_of (gates_in ls)) → l ++ flatten ls
        ≡ text_of (gate_before o (gates_in ls))
    by none p e ih = let z : ◌≡◌ {A = ℕ} 0 1 = cc in absurd (omega arith)
    by (some g) p e ih = ap (λ (x : List ℕ). x ++ flatten ls) (line_wrote l g p).1 ∙ ap (λ (x : List ℕ). line_of g ++ x) (ih e)

pub text_is : (text : List ℕ) → first_malformed 0 (lines_of text) ≡ None → text ≡ text_of (gates_in (lines_of text))
text_is text e = sym (flatten_lines text) ∙ lines_text (lines_of text) 0 e

-- gates that are good for wires below 2 ^ 32 are writable
abbrev pub AllWritable : List Gate → Type 0
AllWritable [] = Unit {0}
AllWritable (g ∷ gs) = Writable g × AllWritable gs

good_writable : (own : ℕ) (g : Gate) → own ≤ 4294967295 → T (good_gate own g) → Writable g
good_writable own g few t =
    let f = good_gate_lem own g t in
    let u = good_unused own g t in
    record {
      known = f.known;
      a_holds = record { fits = omega (arith, f.a_most); unused = u.a_zero };
      b_holds = record { fits = omega (arith, f.b_most); unused = u.b_zero };
      c_holds = record { fits = omega (arith, f.c_most); unused = u.c_zero };
    }

pub all_writable : (own : ℕ) (gs : List Gate) → own + length gs ≤ 4294967295 → AllGood own gs → AllWritable gs
all_writable own [] few p = tt
all_writable own (g ∷ gs) few p = (good_writable own g (omega arith) p.0, all_writable (suc own) gs (omega arith) p.1)

-- the lines of the text of writable gates
pub record TextLines (gs : List Gate) : Type 0 where
  pub all_gates : (i : ℕ) → first_malformed i (lines_of (text_of gs)) ≡ None
  pub read_back : gates_in (lines_of (text_of gs)) ≡ gs
  pub as_many : length (lines_of (text_of gs)) ≡ length gs

pub text_lines : (gs : List Gate) → AllWritable gs → TextLines gs
unfolding text_of first_malformed malformed_at gates_in gate_before lines_of
text_lines [] w = record { all_gates = λ i. refl; read_back = refl; as_many = refl }
text_lines (g ∷ gs) w =
    let t = text_lines gs w.1 in
    let e = lines_cons g (text_of gs) in
    let r = line_read g w.0 in
    record {
      all_gates = λ i. ap (first_malformed i) e
          ∙ ap (λ (o : Option Gate). malformed_at o i (first_malformed (suc i) (lines_of (text_of gs)))) r
          ∙ t.all_gates (suc i);
      read_back = ap gates_in e ∙ ap (λ (o : Option Gate). gate_before o (gates_in (lines_of (text_of gs)))) r
          ∙ ap (λ (l : List Gate). g ∷ l) t.read_back;
      as_many = ap length e ∙ ap suc t.as_many;
    }

-- A gate as a line: what is written is read back, and what is read was written.
-- Assumes nothing.
use mathlib.Core.Path.{◌≡◌, ◌∙◌, refl, sym, ap, subst}
use mathlib.Core.Bool.{Bool, true, false, cond}
use mathlib.Core.Option.{Option, none, some, bind, some-injective, none-ne-some}
use mathlib.Core.List.{List, [], ◌∷◌, ◌++◌, append_assoc, append-nil}
use Prim.Native.Nat.{ℕ, ◌≤◌, ◌<◌}
use native.Mathlib.Omega.{arith}
use lib.Dec.{ltb, eqb}
use borrow.Author.Tests.{lt-ltb, ltb-true, eqb-true}
use Rattle.gates.specs.Kind.{operands_of, kind_count}
use Rattle.gates.specs.Gate.{Gate}
use Rattle.text_lines.specs.Decimal.{decimal, is_digit, Taken, taken, number_in}
use Rattle.text_lines.specs.Line.{operand_text, line_of, known_kind, operand_in, end_in, gate_in, only, gate_of}
use Rattle.text_lines.proofs.DecimalLaws.{Apart, read_decimal, wrote_number}

-- if two readings in a row succeed, each of them does
bind_some : {A B : Type 0} (o : Option A) (f : A → Option B) (y : B) → bind o f ≡ some y → (a : A) × (o ≡ some a) × (f a ≡ some y)
unfolding bind
bind_some none f y e = absurd (none-ne-some y e)
bind_some (some a) f y e = (a, refl, e)

-- an operand that a line can hold: a 32-bit number, 0 if unused
pub record Holds (used : Bool) (x : ℕ) : Type 0 where
  pub fits : x ≤ 4294967295
  pub unused : used ≡ false → x ≡ 0

-- a gate that a line can hold
pub record Writable (g : Gate) : Type 0 where
  pub known : g.kind < kind_count
  pub a_holds : Holds (ltb 0 (operands_of g.kind)) g.a
  pub b_holds : Holds (ltb 1 (operands_of g.kind)) g.b
  pub c_holds : Holds (ltb 2 (operands_of g.kind)) g.c

-- an operand that is written is read back
read_operand : (used : Bool) (x : ℕ) (rest : List ℕ) → Holds used x → Apart rest
    → operand_in used (operand_text used x ++ rest) ≡ taken x rest
unfolding operand_in operand_text
read_operand true x rest h a = read_decimal x rest h.fits a
read_operand false x rest h a = ap (λ (y : ℕ). taken y rest) (sym (h.unused refl))

apart_operand : (used : Bool) (x : ℕ) (rest : List ℕ) → Apart rest → Apart (operand_text used x ++ rest)
unfolding operand_text is_digit
apart_operand true x rest a = refl
apart_operand false x rest a = a

record WroteOperand (used : Bool) (cs : List ℕ) (t : Taken ℕ) : Type 0 where
  holds : Holds used t.value
  is : cs ≡ operand_text used t.value ++ t.rest

wrote_operand : (used : Bool) (cs : List ℕ) (t : Taken ℕ) → operand_in used cs ≡ some t → WroteOperand used cs t
unfolding operand_in operand_text
wrote_operand true [] t e = absurd (none-ne-some t e)
wrote_operand true (c ∷ cs) t e = by (eqb c 32) refl e
  where
    never : {P : Type 0} → true ≡ false → P
    never e = let z : ◌≡◌ {A = ℕ} 0 1 = cc in absurd (omega arith)

    by : (u : Bool) → eqb c 32 ≡ u → cond u (number_in cs) none ≡ some t → WroteOperand true (c ∷ cs) t
    by true p e =
        let w = wrote_number cs t.value t.rest e in
        record {
          holds = record { fits = w.fits; unused = λ (n : true ≡ false). never n };
          is =
              ap (λ (x : ℕ). x ∷ cs) (eqb-true c 32 p) ∙ ap (λ (l : List ℕ). 32 ∷ l) w.is;
        }
    by false p e = absurd (none-ne-some t e)
wrote_operand false cs t e =
    let p = some-injective (record { value = 0; rest = cs }) t e in
    let q : 0 ≡ t.value = ap (λ (u : Taken ℕ). u.value) p in
    record { holds = record { fits = omega arith; unused = λ (n : false ≡ false). sym q }; is = ap (λ (u : Taken ℕ). u.rest) p }

wrote_end : (cs rest : List ℕ) → end_in cs ≡ some rest → cs ≡ 10 ∷ rest
unfolding end_in
wrote_end [] rest e = absurd (none-ne-some rest e)
wrote_end (c ∷ cs) rest e = by (eqb c 10) refl e
  where
    by : (u : Bool) → eqb c 10 ≡ u → cond u (some cs) none ≡ some rest → c ∷ cs ≡ 10 ∷ rest
    by true p e = ap (λ (x : ℕ). x ∷ cs) (eqb-true c 10 p) ∙ ap (λ (l : List ℕ). 10 ∷ l) (some-injective cs rest e)
    by false p e = absurd (none-ne-some rest e)

wrote_kind : (n k : Taken ℕ) → known_kind n ≡ some k → (n ≡ k) × (k.value < kind_count)
unfolding known_kind
wrote_kind n k e = by (ltb n.value kind_count) refl e
  where
    by : (u : Bool) → ltb n.value kind_count ≡ u → cond u (some n) none ≡ some k → (n ≡ k) × (k.value < kind_count)
    by true p e =
        let q = some-injective n k e in
        let small = ltb-true n.value kind_count p in
        let v = ap (λ (t : Taken ℕ). t.value) q in
        (q, omega arith)
    by false p e = absurd (none-ne-some k e)

-- What is written is read back.
pub read_line : (g : Gate) (rest : List ℕ) → Writable g → gate_in (line_of g ++ rest) ≡ taken g rest
unfolding gate_in line_of bind known_kind end_in is_digit
read_line g rest w =
    let n = operands_of g.kind in
    let oc = operand_text (ltb 2 n) g.c ++ 10 ∷ rest in
    let ob = operand_text (ltb 1 n) g.b ++ oc in
    let oa = operand_text (ltb 0 n) g.a ++ ob in
    let ac : Apart oc = apart_operand (ltb 2 n) g.c (10 ∷ rest) refl in
    let ab : Apart ob = apart_operand (ltb 1 n) g.b oc ac in
    let aa : Apart oa = apart_operand (ltb 0 n) g.a ob ab in
    let whole : line_of g ++ rest ≡ decimal g.kind ++ oa = simp append_assoc in
    ap gate_in whole
    ∙ rw (
      read_decimal g.kind oa (omega (arith, w.known)) aa,
      lt-ltb g.kind kind_count w.known,
      read_operand (ltb 0 n) g.a ob w.a_holds ab,
      read_operand (ltb 1 n) g.b oc w.b_holds ac,
      read_operand (ltb 2 n) g.c (10 ∷ rest) w.c_holds refl,
    )

-- What is read was written.
pub record WroteLine (cs : List ℕ) (t : Taken Gate) : Type 0 where
  pub writable : Writable t.value
  pub is : cs ≡ line_of t.value ++ t.rest

-- if all parts of a line are read, the characters are the line of that gate and the rest
together : (cs : List ℕ) (k a b c : Taken ℕ) (rest : List ℕ) → number_in cs ≡ some k → k.value < kind_count
    → operand_in (ltb 0 (operands_of k.value)) k.rest ≡ some a
    → operand_in (ltb 1 (operands_of k.value)) a.rest ≡ some b
    → operand_in (ltb 2 (operands_of k.value)) b.rest ≡ some c
    → end_in c.rest ≡ some rest
    → WroteLine cs (record { value = record { kind = k.value; a = a.value; b = b.value; c = c.value }; rest = rest })
unfolding line_of
together cs k a b c rest ek small ea eb ec er =
    let n = operands_of k.value in
    let wk = wrote_number cs k.value k.rest ek in
    let wa = wrote_operand (ltb 0 n) k.rest a ea in
    let wb = wrote_operand (ltb 1 n) a.rest b eb in
    let wc = wrote_operand (ltb 2 n) b.rest c ec in
    let we = wrote_end c.rest rest er in
    let ta = operand_text (ltb 0 n) a.value in
    let tb = operand_text (ltb 1 n) b.value in
    let tc = operand_text (ltb 2 n) c.value in
    let line : decimal k.value ++ (ta ++ (tb ++ (tc ++ 10 ∷ rest))) ≡ decimal k.value ++ ta ++ tb ++ tc
    ++ 10 ∷ [] ++ rest = sym (simp append_assoc) in
    record {
      writable = record { known = small; a_holds = wa.holds; b_holds = wb.holds; c_holds = wc.holds };
      is = wk.is
          ∙ ap (λ (l : List ℕ). decimal k.value ++ l) wa.is
          ∙ ap (λ (l : List ℕ). decimal k.value ++ (ta ++ l)) wb.is
          ∙ ap (λ (l : List ℕ). decimal k.value ++ (ta ++ (tb ++ l))) wc.is
          ∙ ap (λ (l : List ℕ). decimal k.value ++ (ta ++ (tb ++ (tc ++ l)))) we
          ∙ line;
    }

pub wrote_line : (cs : List ℕ) (t : Taken Gate) → gate_in cs ≡ some t → WroteLine cs t
unfolding gate_in
wrote_line cs t e =
    let k = bind_some _ _ t e in
    let n = bind_some (number_in cs) known_kind k.0 k.1 in
    let known = wrote_kind n.0 k.0 n.2 in
    let a = bind_some _ _ t k.2 in
    let b = bind_some _ _ t a.2 in
    let c = bind_some _ _ t b.2 in
    let r = bind_some _ _ t c.2 in
    subst (WroteLine cs) (some-injective _ t r.2)
    (together cs k.0 a.0 b.0 c.0 r.0 (n.1 ∙ ap {B = Option (Taken ℕ)} some known.0) known.1
    a.1 b.1 c.1 r.1)

-- The same for a whole line.
pub line_read : (g : Gate) → Writable g → gate_of (line_of g) ≡ some g
unfolding gate_of bind only
line_read g w = ap (λ (o : Option (Taken Gate)). bind o λ t. only t.value t.rest)
    (ap gate_in (sym (append-nil (line_of g))) ∙ read_line g [] w)

pub line_wrote : (line : List ℕ) (g : Gate) → gate_of line ≡ some g → Writable g × (line ≡ line_of g)
unfolding gate_of only
line_wrote line g e =
    let t = bind_some (gate_in line) (λ t. only t.value t.rest) g e in
    let w = wrote_line line t.0 t.1 in
    by t.0.value t.0.rest w.writable w.is t.2
  where
    by : (h : Gate) (rest : List ℕ) → Writable h → line ≡ line_of h ++ rest → only h rest ≡ some g → Writable g × (line ≡ line_of g)
    by h [] w is e =
        let q = some-injective h g e in
        (subst Writable q w, is ∙ append-nil (line_of h) ∙ ap line_of q)
    by h (c ∷ cs) w is e = absurd (none-ne-some g e)

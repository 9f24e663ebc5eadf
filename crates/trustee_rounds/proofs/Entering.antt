-- The main lemma: after round r, each wire of a level up to r has its final part, and the wires of all other gates
-- have 0.
-- Assumes nothing.
use mathlib.Core.Path.{◌≡◌, ◌∙◌, refl, sym, subst}
use mathlib.Core.Bool.{Bool, true, false, cond}
use mathlib.Core.List.{List, [], ◌∷◌}
use Prim.Native.Nat.{ℕ, suc, ◌+◌, ◌-◌, ◌*◌, ◌≤◌, ◌<◌}
use native.Mathlib.Omega.{arith}
use lib.Dec.{eqb, ltb}
use lib.ListN.{length, get_or, set, length-set}
use lib.Seq.{get_or-set_same, get_or-set_other}
use borrow.Author.Tests.{ltb-true, ltb-false, lt-ltb, le-ltb, eqb-true, eqb-false}
use Rattle.gates.specs.Kind.{conditional_of, kind_count}
use Rattle.gates.specs.Gate.{Gate}
use Rattle.gate_levels.specs.Levels.{wire_level, gate_level}
use Rattle.gates.proofs.Reading.{Below}
use Rattle.gate_levels.proofs.Laws.{operand_levels}
use Rattle.trustee_shares.specs.Shares.{part, product_part, part_of_kind, Held, opened_first, opened_second, new_part, mark_of}
use Rattle.trustee_shares.proofs.Exchange.{ignores}
use Rattle.trustee_rounds.specs.Rounds.{Turn, heard_part, enters_gate, enters}

module _ (t inputs : ℕ) (triples final : Held) (levels : List ℕ) where
  -- The facts about gate g of the list, before which i conditional gates come: its kind is known, its operands are
  -- earlier wires and determine its level, and each trustee's final part of its wire follows from the final parts
  -- of the operands.
  pub record GateFits (g i : ℕ) (x : Gate) : Type 0 where
    pub known : x.kind < kind_count
    pub below : Below (inputs + g) x
    pub level : get_or levels g 0 ≡ gate_level inputs levels x
    pub new : (p : ℕ) → p < t → part (final p) (inputs + g) ≡ new_part t triples final i x p

  abbrev pub Fits : List Gate → ℕ → ℕ → Type 0
  Fits [] g i = Unit {0}
  Fits (x ∷ xs) g i = GateFits g i x × Fits xs (suc g) (i + mark_of x)

  -- What trustee p has at gate h's wire after all levels below n are done.
  abbrev pub reached : ℕ → ℕ → ℕ → ℕ
  reached p n h = cond (ltb (get_or levels h 0) n) (part (final p) (inputs + h)) 0

  module _ (p r : ℕ) (heard : List ℕ) where
    -- The sums that a gate of this round needs have been heard.
    abbrev pub HeardGate : ℕ → ℕ → Gate → Type 0
    HeardGate g i x = conditional_of x.kind ≡ true → get_or levels g 0 ≡ r
        → (part heard (2 * i) ≡ opened_first t triples final i x) × (part heard (2 * i + 1) ≡ opened_second t triples final i x)

    abbrev pub Heard : List Gate → ℕ → ℕ → Type 0
    Heard [] g i = Unit {0}
    Heard (x ∷ xs) g i = HeardGate g i x × Heard xs (suc g) (i + mark_of x)

    abbrev pub turn : Turn
    turn = record { trustee = p; round = r; inputs = inputs; levels = levels; triples = triples p; heard = heard }

    -- The wire parts during a round, before gate g of `size` gates.
    pub record Stands (size : ℕ) (ws : List ℕ) (g : ℕ) : Type 0 where
      pub long : length ws ≡ inputs + size
      pub input : (x : ℕ) → x < inputs → part ws x ≡ part (final p) x
      pub done : (h : ℕ) → h < g → part ws (inputs + h) ≡ reached p (suc r) h
      pub left : (h : ℕ) → g ≤ h → h < size → part ws (inputs + h) ≡ reached p r h

    reached_part : (n h : ℕ) → get_or levels h 0 < n → reached p n h ≡ part (final p) (inputs + h)
    reached_part n h l = rw (lt-ltb (get_or levels h 0) n l)

    -- a wire of a level that is done has its final part
    pub wire_there : (size : ℕ) (ws : List ℕ) (g : ℕ) → Stands size ws g → (x : ℕ) → x < inputs + g
        → wire_level inputs levels x ≤ r → part ws x ≡ part (final p) x
    unfolding wire_level
    wire_there size ws g s x l = go (ltb x inputs) refl
      where
        go : (b : Bool) → ltb x inputs ≡ b → cond b 0 (get_or levels (x - inputs) 0) ≤ r → part ws x ≡ part (final p) x
        go true e m = s.input x (ltb-true x inputs e)
        go false e m =
            let f = ltb-false x inputs e in
            let is : inputs + (x - inputs) ≡ x = omega arith in
            subst (λ (y : ℕ). part ws y ≡ part (final p) y) is
            (s.done (x - inputs) (omega arith) ∙ reached_part (suc r) (x - inputs) (omega arith))

    -- trustee p's final part of a gate's wire, from its bit z of the product
    abbrev by : Gate → ℕ → ℕ
    by x z = part_of_kind p x.kind (part (final p) x.a) (part (final p) x.b) (part (final p) x.c) z

    -- so a gate of this round gets its final part
    pub gate_heard : (size : ℕ) (ws : List ℕ) (g i : ℕ) (x : Gate) → p < t → Stands size ws g → GateFits g i x
        → HeardGate g i x → get_or levels g 0 ≡ r
        → heard_part turn i x ws ≡ part (final p) (inputs + g)
    unfolding heard_part new_part
    gate_heard size ws g i x l s fits heard_gate is =
        let o = operand_levels inputs levels x in
        let f = fits.level in
        let there = wire_there size ws g s in
        let ea = there x.a fits.below.a_below (omega (arith, o.a_level)) in
        let eb = there x.b fits.below.b_below (omega (arith, o.b_level)) in
        let ec = there x.c fits.below.c_below (omega (arith, o.c_level)) in
        rw (ea, eb, ec) (go (conditional_of x.kind) refl) ∙ sym (fits.new p l)
      where
        go : (b : Bool) → conditional_of x.kind ≡ b
            → by x (product_part p (triples p) i (part heard (2 * i)) (part heard (2 * i + 1)))
            ≡ by x (product_part p (triples p) i (opened_first t triples final i x) (opened_second t triples final i x))
        go true e = let h = heard_gate e is in rw (h.0, h.1)
        go false e = ignores p x.kind (part (final p) x.a) (part (final p) x.b) (part (final p) x.c) _ _ fits.known e

    -- the wire parts after one gate
    stands_gate : (size : ℕ) (ws : List ℕ) (g i : ℕ) (x : Gate) → p < t → g < size → Stands size ws g
        → GateFits g i x → HeardGate g i x → Stands size (enters_gate turn g i x ws) (suc g)
    unfolding enters_gate part
    stands_gate size ws g i x l m s fits heard_gate = go (eqb (get_or levels g 0) r) refl
      where
        v : ℕ
        v = heard_part turn i x ws

        split : (h : ℕ) → h < suc g → (b : Bool) → eqb h g ≡ b → (n : ℕ)
            → (h < g → part ws (inputs + h) ≡ reached p n h) → part ws (inputs + g) ≡ reached p n g
            → part ws (inputs + h) ≡ reached p n h
        split h k true e n before own = let is = eqb-true h g e in rw is own
        split h k false e n before own = let no = eqb-false h g e in before (omega arith)

        go : (b : Bool) → eqb (get_or levels g 0) r ≡ b → Stands size (cond b (set ws (inputs + g) v) ws) (suc g)
        go true e =
            let is = eqb-true (get_or levels g 0) r e in
            let long = s.long in
            let own : v ≡ reached p (suc r) g = gate_heard size ws g i x l s fits heard_gate is
            ∙ sym (reached_part (suc r) g (omega arith)) in
            record {
              long = length-set ws (inputs + g) v ∙ s.long;
              input = λ (y : ℕ) k. get_or-set_other ws (inputs + g) y v 0 (λ e. omega arith) ∙ s.input y k;
              done = λ (h : ℕ) k. at h k (eqb h g) refl own;
              left = λ (h : ℕ) k j. get_or-set_other ws (inputs + g) (inputs + h) v 0 (λ e. omega arith) ∙ s.left h (omega arith) j;
            }
          where
            at : (h : ℕ) → h < suc g → (b : Bool) → eqb h g ≡ b → v ≡ reached p (suc r) g
                → get_or (set ws (inputs + g) v) (inputs + h) 0 ≡ reached p (suc r) h
            at h k true e own =
                let long = s.long in
                rw (eqb-true h g e) (get_or-set_same ws (inputs + g) v 0 (omega arith) ∙ own)
            at h k false e own =
                let no = eqb-false h g e in
                get_or-set_other ws (inputs + g) (inputs + h) v 0 (λ e. no (omega arith)) ∙ s.done h (omega (arith, no))
        go false e =
            let no = eqb-false (get_or levels g 0) r e in
            record {
              long = s.long;
              input = s.input;
              done = λ (h : ℕ) k. split h k (eqb h g) refl (suc r) (s.done h)
                  (s.left g (omega arith) m ∙ same no (ltb (get_or levels g 0) r) refl);
              left = λ (h : ℕ) k j. s.left h (omega arith) j;
            }
          where
            same : ((get_or levels g 0 ≡ r) → ⊥) → (b : Bool) → ltb (get_or levels g 0) r ≡ b → reached p r g ≡ reached p (suc r) g
            same other true e = let k = ltb-true (get_or levels g 0) r e in rw (e, lt-ltb (get_or levels g 0) (suc r) (omega arith))
            same other false e = let k = ltb-false (get_or levels g 0) r e in rw (e, le-ltb (get_or levels g 0) (suc r) (omega (arith, other)))

    -- the wire parts after the whole round
    pub stands_end : (gs : List Gate) (size g i : ℕ) (ws : List ℕ) → p < t → g + length gs ≡ size → Fits gs g i
        → Heard gs g i → Stands size ws g → Stands size (enters turn gs g i ws) size
    unfolding enters
    stands_end [] size g i ws l e fits hs s = let is : g ≡ size = omega arith in subst (λ (n : ℕ). Stands size ws n) is s
    stands_end (x ∷ xs) size g i ws l e fits hs s =
        stands_end xs size (suc g) (i + mark_of x) (enters_gate turn g i x ws) l (omega arith) fits.1 hs.1
        (stands_gate size ws g i x l (omega arith) s fits.0 hs.0)

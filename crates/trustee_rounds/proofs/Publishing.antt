-- What is published, level by level: after round r both masked factors are published for each conditional gate of a
-- level up to r + 1; for the others there are zeros.
-- Assumes nothing.
use mathlib.Core.Path.{◌≡◌, ◌∙◌, refl, sym, ap, subst}
use mathlib.Core.Bool.{Bool, true, false, cond, ◌&&◌}
use mathlib.Core.List.{List, [], ◌∷◌}
use Prim.Native.Nat.{ℕ, zero, suc, ◌+◌, ◌*◌, ◌≤◌, ◌<◌}
use native.Mathlib.Nat.{zero-add}
use native.Mathlib.Omega.{arith}
use lib.Dec.{eqb, ltb}
use lib.ListN.{length, get_or, set, take, drop, length-set}
use lib.Seq.{get_or-set_same, get_or-set_other, drop-cons}
use borrow.Author.Tests.{ltb-true, ltb-false, lt-ltb, le-ltb, eqb-true, eqb-false}
use Rattle.gates.specs.Kind.{conditional_of}
use Rattle.gates.specs.Gate.{Gate}
use Rattle.gates.specs.Board.{conditional_count}
use Rattle.gates.proofs.Counting.{count_nil}
use Rattle.gate_levels.proofs.Laws.{operand_levels}
use Rattle.trustee_shares.specs.Shares.{opened, part, first_factor, second_factor, masked_first, masked_second, Held, opened_first, opened_second, mark_of}
use Rattle.trustee_shares.specs.Views.{masked_factors}
use Rattle.trustee_shares.proofs.Accuracy.{opened_same, count_mark, mark_one}
use Rattle.trustee_rounds.specs.Rounds.{publishes_gate, publishes}
use Rattle.trustee_rounds.specs.Together.{sums_from, sums_of}
use Rattle.trustee_rounds.proofs.Entering.{GateFits, Fits, Heard, turn, Stands, wire_there}
use Rattle.trustee_shares.proofs.Publishing.{mark_none}

-- masked factors depend only on the parts of the operands
first_same : (ws vs triples : List ℕ) (i : ℕ) (x : Gate) → part ws x.a ≡ part vs x.a → masked_first ws triples i x
    ≡ masked_first vs triples i x
unfolding masked_first first_factor
first_same ws vs triples i x e = rw e

second_same : (ws vs triples : List ℕ) (i : ℕ) (x : Gate) → part ws x.b ≡ part vs x.b → part ws x.c
    ≡ part vs x.c → masked_second ws triples i x ≡ masked_second vs triples i x
unfolding masked_second second_factor
second_same ws vs triples i x e f = rw (e, f)

-- the sums of what is published
sum_at : (t n j m : ℕ) (published : Held) → m < n → get_or (sums_from t n j published) m 0 ≡ opened t (λ p. part (published p) (j + m))
unfolding sums_from
sum_at t zero j m published h = absurd (omega arith)
sum_at t (suc n) j zero published h = let e : j ≡ j + 0 = omega arith in ap (λ (i : ℕ). opened t (λ p. part (published p) i)) e
sum_at t (suc n) j (suc m) published h =
    let e : suc j + m ≡ j + suc m = omega arith in
    sum_at t n (suc j) m published (omega arith) ∙ ap (λ (i : ℕ). opened t (λ p. part (published p) i)) e

pub length_sums : (t n j : ℕ) (published : Held) → length (sums_from t n j published) ≡ n
unfolding sums_from
length_sums t zero j published = refl
length_sums t (suc n) j published = ap suc (length_sums t n (suc j) published)

pub sums_at : (t conditional j : ℕ) (published : Held) → j < 2 * conditional
    → part (sums_of t conditional published) j ≡ opened t (λ p. part (published p) j)
unfolding sums_of part
sums_at t conditional j published h = sum_at t (2 * conditional) 0 j published h
    ∙ ap (λ (i : ℕ). opened t (λ p. get_or (published p) i 0)) (zero-add j)

module _ (t inputs : ℕ) (triples final : Held) (levels : List ℕ) where
  -- What trustee p has published for gate g after all levels below n were published.
  abbrev pub ShownGate : ℕ → ℕ → List ℕ → ℕ → ℕ → Gate → Type 0
  ShownGate p n published g i x = conditional_of x.kind ≡ true
      → (part published (2 * i) ≡ cond (ltb (get_or levels g 0) n) (masked_first (final p) (triples p) i x) 0)
      × (part published (2 * i + 1) ≡ cond (ltb (get_or levels g 0) n) (masked_second (final p) (triples p) i x) 0)

  abbrev pub Shown : ℕ → ℕ → List ℕ → List Gate → ℕ → ℕ → Type 0
  Shown p n published [] g i = Unit {0}
  Shown p n published (x ∷ xs) g i = ShownGate p n published g i x × Shown p n published xs (suc g) (i + mark_of x)

  -- `Shown` depends only on the places from 2 * i on
  shown_same : (p n : ℕ) (gs : List Gate) (g i : ℕ) (pub₁ pub₂ : List ℕ)
      → ((j : ℕ) → 2 * i ≤ j → part pub₂ j ≡ part pub₁ j) → Shown p n pub₁ gs g i → Shown p n pub₂ gs g i
  shown_same p n [] g i pub₁ pub₂ e s = tt
  shown_same p n (x ∷ xs) g i pub₁ pub₂ e s = (
    λ is. (e (2 * i) (omega arith) ∙ (s.0 is).0, e (2 * i + 1) (omega arith) ∙ (s.0 is).1),
    shown_same p n xs (suc g) (i + mark_of x) pub₁ pub₂ (λ (j : ℕ) h. e j (omega arith)) s.1,
  )

  -- if all trustees have published for the levels up to r, the sums that the gates of round r need were heard
  pub heard_shown : (gs : List Gate) (g i r conditional : ℕ) (published : Held) → i + conditional_count gs ≤ conditional
      → ((p : ℕ) → p < t → Shown p (suc r) (published p) gs g i) → (p : ℕ)
      → Heard t inputs triples final levels p r (sums_of t conditional published) gs g i
  unfolding opened_first opened_second
  heard_shown [] g i r conditional published room s p = tt
  heard_shown (x ∷ xs) g i r conditional published room s p = (
    λ is e.
        let c = count_mark x xs in
        let m = mark_one x is in
        let l : get_or levels g 0 < suc r = omega arith in (
          sums_at t conditional (2 * i) published (omega arith)
              ∙ opened_same t (λ q. part (published q) (2 * i)) (λ q. masked_first (final q) (triples q) i x)
              (λ (q : ℕ) h. ((s q h).0 is).0 ∙ ap (λ (b : Bool). cond b (masked_first (final q) (triples q) i x) 0)
              (lt-ltb (get_or levels g 0) (suc r) l)),
          sums_at t conditional (2 * i + 1) published (omega arith)
              ∙ opened_same t (λ q. part (published q) (2 * i + 1)) (λ q. masked_second (final q) (triples q) i x)
              (λ (q : ℕ) h. ((s q h).0 is).1 ∙ ap (λ (b : Bool). cond b (masked_second (final q) (triples q) i x) 0)
              (lt-ltb (get_or levels g 0) (suc r) l)),
        ),
    heard_shown xs (suc g) (i + mark_of x) r conditional published (omega (arith, count_mark x xs)) (λ (q : ℕ) h. (s q h).1) p,
  )

  module _ (p r : ℕ) (heard ws : List ℕ) (size : ℕ) (stands : Stands t inputs triples final levels p r heard size ws size) where
    -- after one gate: its two places are right, and those of other gates are unchanged
    record Turned (published published' : List ℕ) (g i : ℕ) (x : Gate) : Type 0 where
      long : length published' ≡ length published
      shows : ShownGate p (suc (suc r)) published' g i x
      before : (j : ℕ) → j < 2 * i → part published' j ≡ part published j
      behind : (j : ℕ) → 2 * (i + mark_of x) ≤ j → part published' j ≡ part published j

    turned : (published : List ℕ) (g i : ℕ) (x : Gate) → g < size → i + mark_of x ≤ i + 1 → 2 * (i + mark_of x)
        ≤ length published → GateFits t inputs triples final levels g i x
        → ShownGate p (suc r) published g i x
        → Turned published (publishes_gate (turn t inputs triples final levels p r heard) ws g i x published) g i x
    unfolding publishes_gate part
    turned published g i x m few room fits shown = go (conditional_of x.kind) refl (eqb (get_or levels g 0) (suc r)) refl
      where
        first : ℕ
        first = masked_first ws (triples p) i x

        second : ℕ
        second = masked_second ws (triples p) i x

        go : (b : Bool) → conditional_of x.kind ≡ b → (e : Bool) → eqb (get_or levels g 0) (suc r) ≡ e
            → Turned published (cond (b && e) (set (set published (2 * i) first) (suc (2 * i)) second) published) g i x
        go false is e f =
            record {
              long = refl;
              shows = λ yes. let z : false ≡ true = sym is ∙ yes in let y : ◌≡◌ {A = ℕ} 0 1 = cc in absurd (omega arith);
              before = λ (j : ℕ) h. refl;
              behind = λ (j : ℕ) h. refl;
            }
        go true is false f =
            record {
              long = refl;
              shows = λ yes. (
                (shown yes).0 ∙ later (masked_first (final p) (triples p) i x)
                    (ltb (get_or levels g 0) (suc r)) refl,
                (shown yes).1
                    ∙ later (masked_second (final p) (triples p) i x) (ltb (get_or levels g 0) (suc r)) refl,
              );
              before = λ (j : ℕ) h. refl;
              behind = λ (j : ℕ) h. refl;
            }
          where
            later : (v : ℕ) (b : Bool) → ltb (get_or levels g 0) (suc r) ≡ b
                → cond (ltb (get_or levels g 0) (suc r)) v 0 ≡ cond (ltb (get_or levels g 0) (suc (suc r))) v 0
            later v true e = let k = ltb-true (get_or levels g 0) (suc r) e in rw (e, lt-ltb (get_or levels g 0) (suc (suc r)) (omega arith))
            later v false e = let k = ltb-false (get_or levels g 0) (suc r) e in let other =
                eqb-false (get_or levels g 0) (suc r) f in
                rw (e, le-ltb (get_or levels g 0) (suc (suc r)) (omega (arith, other)))
        go true is true f =
            let one = mark_one x is in
            let level = eqb-true (get_or levels g 0) (suc r) f in
            let o = operand_levels inputs levels x in
            let mark : cond {A = ℕ} (conditional_of x.kind) 1 0 ≡ 1 = ap (λ (b : Bool). cond {A = ℕ} b 1 0) is in
            let own = fits.level in
            let at = wire_there t inputs triples final levels p r heard size ws size stands in
            let ea = at x.a (omega (arith, fits.below.a_below)) (omega (arith, o.a_level)) in
            let eb = at x.b (omega (arith, fits.below.b_below)) (omega (arith, o.b_level)) in
            let ec = at x.c (omega (arith, fits.below.c_below)) (omega (arith, o.c_level)) in
            let yes : ltb (get_or levels g 0) (suc (suc r)) ≡ true = lt-ltb (get_or levels g 0) (suc (suc r)) (omega arith) in
            let long = length-set published (2 * i) first in
            let more : 2 * i + 1 ≡ suc (2 * i) = omega arith in
            record {
              long = length-set (set published (2 * i) first) (suc (2 * i)) second ∙ length-set published (2 * i) first;
              shows = λ again. (
                get_or-set_other (set published (2 * i) first) (suc (2 * i)) (2 * i) second 0 (λ e. omega arith)
                    ∙ get_or-set_same published (2 * i) first 0 (omega arith)
                    ∙ first_same ws (final p) (triples p) i x ea
                    ∙ sym (ap (λ (b : Bool). cond b (masked_first (final p) (triples p) i x) 0) yes),
                ap (λ (j : ℕ). get_or (set (set published (2 * i) first) (suc (2 * i)) second) j 0) more
                    ∙ get_or-set_same (set published (2 * i) first) (suc (2 * i)) second 0 (omega arith)
                    ∙ second_same ws (final p) (triples p) i x eb ec
                    ∙ sym (ap (λ (b : Bool). cond b (masked_second (final p) (triples p) i x) 0) yes),
              );
              before = λ (j : ℕ) h. get_or-set_other (set published (2 * i) first) (suc (2 * i)) j second 0
                  (λ e. omega arith) ∙ get_or-set_other published (2 * i) j first 0 (λ e. omega arith);
              behind = λ (j : ℕ) h. get_or-set_other (set published (2 * i) first) (suc (2 * i)) j second 0
                  (λ e. omega arith) ∙ get_or-set_other published (2 * i) j first 0 (λ e. omega arith);
            }

    -- after all gates
    pub record Published (published published' : List ℕ) (gs : List Gate) (g i : ℕ) : Type 0 where
      pub long : length published' ≡ length published
      pub shows : Shown p (suc (suc r)) published' gs g i
      pub before : (j : ℕ) → j < 2 * i → part published' j ≡ part published j
      pub behind : (j : ℕ) → 2 * (i + conditional_count gs) ≤ j → part published' j ≡ part published j

    pub published_end : (gs : List Gate) (g i : ℕ) (published : List ℕ) → g + length gs ≡ size → 2
        * (i + conditional_count gs) ≤ length published → Fits t inputs triples final levels gs g i
        → Shown p (suc r) published gs g i
        → Published published (publishes (turn t inputs triples final levels p r heard) ws gs g i published) gs g i
    unfolding publishes
    published_end [] g i published e room fits s =
        record { long = refl; shows = tt; before = λ (j : ℕ) h. refl; behind = λ (j : ℕ) h. refl }
    published_end (x ∷ xs) g i published e room fits s =
        let c = count_mark x xs in
        let pub₁ = publishes_gate (turn t inputs triples final levels p r heard) ws g i x published in
        let one = turned published g i x (omega arith) (omega (arith, mark_most x)) (omega arith) fits.0 s.0 in
        let rest = published_end xs (suc g) (i + mark_of x) pub₁ (omega arith) (omega (arith, one.long)) fits.1
        (shown_same p (suc r) xs (suc g) (i + mark_of x) published pub₁ one.behind s.1) in
        record {
          long = rest.long ∙ one.long;
          shows = (
            λ is.
                let m = mark_one x is in
                (rest.before (2 * i) (omega arith) ∙ (one.shows is).0, rest.before (2 * i + 1) (omega arith) ∙ (one.shows is).1),
            rest.shows,
          );
          before = λ (j : ℕ) h. rest.before j (omega arith) ∙ one.before j h;
          behind = λ (j : ℕ) h. rest.behind j (omega (arith, c, h)) ∙ one.behind j (omega (arith, c, h));
        }
      where
        mark_most : (x : Gate) → mark_of x ≤ 1
        mark_most x = go (conditional_of x.kind) refl
          where
            go : (b : Bool) → conditional_of x.kind ≡ b → mark_of x ≤ 1
            go true e = omega (arith, mark_one x e)
            go false e = omega (arith, mark_none x e)

  -- after all levels are done, the places of the gates hold the masked factors
  pub all_shown : (p n : ℕ) (published : List ℕ) (gs : List Gate) (g i : ℕ) → ((h : ℕ) → get_or levels h 0 < n) → 2
      * (i + conditional_count gs) ≤ length published → Shown p n published gs g i
      → take (2 * conditional_count gs) (drop (2 * i) published) ≡ masked_factors (final p) (triples p) i gs
  unfolding masked_factors
  all_shown p n published [] g i small room s = rw count_nil
  all_shown p n published (x ∷ xs) g i small room s =
      go (conditional_of x.kind) refl
      (all_shown p n published xs (suc g) (i + mark_of x) small (omega (arith, count_mark x xs)) s.1)
    where
      first : ℕ
      first = masked_first (final p) (triples p) i x

      second : ℕ
      second = masked_second (final p) (triples p) i x

      yes : ltb (get_or levels g 0) n ≡ true
      yes = lt-ltb (get_or levels g 0) n (small g)

      go : (b : Bool) → conditional_of x.kind ≡ b
          → take (2 * conditional_count xs) (drop (2 * (i + mark_of x)) published)
          ≡ masked_factors (final p) (triples p) (i + mark_of x) xs
          → take (2 * conditional_count (x ∷ xs)) (drop (2 * i) published)
          ≡ cond b (masked_first (final p) (triples p) i x ∷ masked_second (final p) (triples p) i x ∷ masked_factors
          (final p) (triples p) (i + 1) xs) (masked_factors (final p) (triples p) i xs)
      go false is rest =
          let c = count_mark x xs in
          let z = mark_none x is in
          let a : conditional_count (x ∷ xs) ≡ conditional_count xs = omega arith in
          let b : i ≡ i + mark_of x = omega arith in
          let f : i + mark_of x ≡ i = omega arith in
          ap (λ (m : ℕ). take (2 * m) (drop (2 * i) published)) a
          ∙ ap (λ (m : ℕ). take (2 * conditional_count xs) (drop (2 * m) published)) b
          ∙ rest ∙ ap (λ (m : ℕ). masked_factors (final p) (triples p) m xs) f
      go true is rest =
          let c = count_mark x xs in
          let o = mark_one x is in
          let a : 2 * conditional_count (x ∷ xs) ≡ suc (suc (2 * conditional_count xs)) = omega arith in
          let b : suc (suc (2 * i)) ≡ 2 * (i + mark_of x) = omega arith in
          let d : 2 * i + 1 ≡ suc (2 * i) = omega arith in
          let f : i + mark_of x ≡ i + 1 = omega arith in
          let va : get_or published (2 * i) 0 ≡ first = unfold part in (s.0 is).0 ∙ ap (λ (b : Bool). cond b first 0) yes in
          let vb : get_or published (suc (2 * i)) 0 ≡ second = ap (λ (j : ℕ). get_or published j 0) (sym d)
          ∙ (unfold part in (s.0 is).1 ∙ ap (λ (b : Bool). cond b second 0) yes) in
          ap (λ (m : ℕ). take m (drop (2 * i) published)) a
          ∙ ap (λ (l : List ℕ). take (suc (suc (2 * conditional_count xs))) l)
          (drop-cons published (2 * i) 0 (omega arith)
          ∙ ap (λ (l : List ℕ). get_or published (2 * i) 0 ∷ l) (drop-cons published (suc (2 * i)) 0 (omega arith)))
          ∙ ap (λ (v : ℕ). v ∷ get_or published (suc (2 * i)) 0 ∷ take (2 * conditional_count xs) (drop (suc (suc (2 * i))) published)) va
          ∙ ap (λ (v : ℕ). first ∷ v ∷ take (2 * conditional_count xs) (drop (suc (suc (2 * i))) published)) vb
          ∙ ap (λ (m : ℕ). first ∷ second ∷ take (2 * conditional_count xs) (drop m published)) b
          ∙ ap (λ (l : List ℕ). first ∷ second ∷ l) (rest ∙ ap (λ (m : ℕ). masked_factors (final p) (triples p) m xs) f)

-- If two dealings of one list end with equal factors, what was published of them is equal after every round.
module _ (inputs : ℕ) (levels : List ℕ) (p n : ℕ) where
  heads : {x x' y y' : ℕ} {r r' : List ℕ} → ◌≡◌ {A = List ℕ} (x ∷ y ∷ r) (x' ∷ y' ∷ r') → (x ≡ x') × (y ≡ y') × (r ≡ r')
  heads e = (ap (λ (l : List ℕ). get_or l 0 0) e, ap (λ (l : List ℕ). get_or l 1 0) e, ap (λ (l : List ℕ). drop 2 l) e)

  pub same_shown : (t : ℕ) (triples final triples' final' : Held) (gs : List Gate) (g i : ℕ) (a b : List ℕ)
      → Shown t inputs triples final levels p n a gs g i → Shown t inputs triples' final' levels p n b gs g i
      → masked_factors (final p) (triples p) i gs ≡ masked_factors (final' p) (triples' p) i gs
      → (j : ℕ) → 2 * i ≤ j → j < 2 * (i + conditional_count gs) → part a j ≡ part b j
  unfolding masked_factors
  same_shown t triples final triples' final' [] g i a b s s' e j low high = absurd (omega (arith, count_nil))
  same_shown t triples final triples' final' (x ∷ xs) g i a b s s' e j low high =
      let few : j < 2 * (i + mark_of x + conditional_count xs) = omega (arith, count_mark x xs) in
      go (λ f l. same_shown t triples final triples' final' xs (suc g) (i + mark_of x) a b s.1 s'.1 f j l few)
      (conditional_of x.kind) refl e
    where
      go : (masked_factors (final p) (triples p) (i + mark_of x) xs
          ≡ masked_factors (final' p) (triples' p) (i + mark_of x) xs → 2 * (i + mark_of x) ≤ j → part a j ≡ part b j)
          → (c : Bool) → conditional_of x.kind ≡ c
          → cond c (masked_first (final p) (triples p) i x ∷ masked_second (final p) (triples p) i x ∷ masked_factors
          (final p) (triples p) (i + 1) xs) (masked_factors (final p) (triples p) i xs)
          ≡ cond c (masked_first (final' p) (triples' p) i x ∷ masked_second (final' p) (triples' p) i x ∷ masked_factors
          (final' p) (triples' p) (i + 1) xs) (masked_factors (final' p) (triples' p) i xs)
          → part a j ≡ part b j
      go more false is f =
          let same : i ≡ i + mark_of x = omega (arith, mark_none x is) in
          more (subst (λ (m : ℕ). masked_factors (final p) (triples p) m xs ≡ masked_factors (final' p) (triples' p) m xs)
          same f) (omega (arith, low, mark_none x is))
      go more true is f =
          let h = heads f in
          let one = mark_one x is in
          let first : part a (2 * i) ≡ part b (2 * i) =
          (s.0 is).0 ∙ ap (λ (v : ℕ). cond (ltb (get_or levels g 0) n) v 0) h.0 ∙ sym (s'.0 is).0 in
          let second : part a (2 * i + 1) ≡ part b (2 * i + 1) =
          (s.0 is).1 ∙ ap (λ (v : ℕ). cond (ltb (get_or levels g 0) n) v 0) h.1 ∙ sym (s'.0 is).1 in
          let same : i + 1 ≡ i + mark_of x = omega arith in
          place first second
          (λ l. more (subst (λ (m : ℕ). masked_factors (final p) (triples p) m xs
          ≡ masked_factors (final' p) (triples' p) m xs) same h.2) (omega (arith, one, l)))
        where
          place : part a (2 * i) ≡ part b (2 * i) → part a (2 * i + 1) ≡ part b (2 * i + 1)
              → (2 * i + 2 ≤ j → part a j ≡ part b j) → part a j ≡ part b j
          place u v w = at (eqb j (2 * i)) refl (eqb j (2 * i + 1)) refl
            where
              at : (y : Bool) → eqb j (2 * i) ≡ y → (z : Bool) → eqb j (2 * i + 1) ≡ z → part a j ≡ part b j
              at true ey z ez = subst (λ (k : ℕ). part a k ≡ part b k) (sym (eqb-true j (2 * i) ey)) u
              at false ey true ez = subst (λ (k : ℕ). part a k ≡ part b k) (sym (eqb-true j (2 * i + 1) ez)) v
              at false ey false ez = w (omega (arith, low, eqb-false j (2 * i) ey, eqb-false j (2 * i + 1) ez))

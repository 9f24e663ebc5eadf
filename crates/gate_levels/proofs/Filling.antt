-- Levels gate by gate: after each gate, the levels found so far and the gates left give the levels of the whole
-- list.
-- Assumes nothing.
use mathlib.Core.Path.{◌≡◌, ◌∙◌, refl, sym, ap, subst}
use mathlib.Core.Bool.{Bool, true, false, cond}
use mathlib.Core.List.{List, [], ◌∷◌, ◌++◌}
use Prim.Native.Nat.{ℕ, suc, ◌+◌, ◌-◌, ◌≤◌, ◌<◌, max}
use native.Mathlib.Nat.{add-suc}
use native.Mathlib.Omega.{arith}
use lib.Dec.{ltb}
use lib.ListN.{length, get_or, take, drop, length-append, drop_of_length-le}
use lib.Seq.{get_or-take, take_all, length-take-le, get_or-append_seam}
use borrow.Author.Tests.{ltb-false}
use Rattle.gates.specs.Kind.{conditional_of}
use Rattle.gates.specs.Gate.{Gate, gates_of, gate_at}
use Rattle.gates.specs.Test.{first_bad}
use Rattle.std.specs.Prelude.{Some, None}
use Rattle.gates.proofs.Table.{length_gates, gates_from}
use Rattle.gates.proofs.Counting.{mark_at_most_one}
use Rattle.gates.proofs.Laws.{AllGood, all_good}
use Rattle.gate_levels.specs.Levels.{wire_level, gate_level, levels_from, levels_of, rounds_of}
use Rattle.gate_levels.specs.inner.Filling.{LevelReady}
use Rattle.gate_levels.specs.Compared.{compared}
use Rattle.gates.proofs.Reading.{Below, operands_below}
use Rattle.basics.specs.Lists.{maximum, same_numbers}
use Rattle.basics.proofs.Same.{same_refl, same_true}
use Rattle.gate_levels.proofs.Laws.{levels_keep, gate_level_same, maximum_most, maximum_more, gate_most}

module _ (inputs : ℕ) (table : List ℕ) where
  -- After the first g gates: the table has their levels, `most` is the largest, and the gates from g on are left.
  pub record Left (levels : List ℕ) (most g : ℕ) : Type 0 where
    pub order : g ≤ length (gates_of table)
    pub long : length levels ≡ length (gates_of table)
    pub rest : levels_from inputs (take g levels) (drop g (gates_of table)) ≡ levels_of inputs (gates_of table)
    pub good : AllGood (inputs + g) (drop g (gates_of table))
    pub most_is : most ≡ maximum (take g levels)
    pub small : maximum (take g levels) ≤ g

  pub left_start : (levels : List ℕ) → first_bad inputs 0 (gates_of table) ≡ None → length levels
      ≡ length (gates_of table) → Left levels 0 0
  unfolding levels_of maximum
  left_start levels good long =
      record {
        order = omega arith;
        long = long;
        rest = refl;
        good = all_good inputs 0 (gates_of table) good;
        most_is = refl;
        small = omega arith;
      }

  module _ (levels : List ℕ) (most g : ℕ) (left : Left levels most g) (pos : 1 ≤ inputs) (h : g < length (gates_of table)) where
    x : Gate
    x = gate_at table g

    later : List Gate
    later = drop (suc g) (gates_of table)

    starts : drop g (gates_of table) ≡ x ∷ later
    unfolding x later
    starts = gates_from table g h

    good_here : AllGood (inputs + g) (x ∷ later)
    good_here = subst (AllGood (inputs + g)) starts left.good

    below : Below (inputs + g) x
    below = operands_below (inputs + g) x (omega arith) good_here.0

    pub level_ready : length (gates_of table) ≤ 1048576 → LevelReady inputs table g levels
    unfolding x
    level_ready few =
        record {
          in_table = omega (arith, length_gates table);
          in_levels = omega (arith, left.long);
          a_below = below.a_below;
          b_below = below.b_below;
          c_below = below.c_below;
          small = λ (i : ℕ) m.
              let e = get_or-take g levels i 0 m in
              omega (arith, maximum_most (take g levels) i, left.small);
          few = omega arith;
        }

    same_level : gate_level inputs (take g levels) x ≡ gate_level inputs levels x
    same_level = gate_level_same inputs g (take g levels) levels x below (λ (i : ℕ) m. get_or-take g levels i 0 m)

    prefix_long : length (take g levels) ≡ g
    prefix_long = length-take-le g levels (omega (arith, left.long))

    -- the level v of gate g is known
    module _ (v : ℕ) (is : v ≡ gate_level inputs levels (gate_at table g)) where
      own : v ≡ gate_level inputs (take g levels) x
      unfolding x
      own = is ∙ sym same_level

      rest_after : levels_from inputs (take g levels ++ (v ∷ [])) later ≡ levels_of inputs (gates_of table)
      unfolding levels_from
      rest_after =
          ap (λ (w : ℕ). levels_from inputs (take g levels ++ (w ∷ [])) later) own
          ∙ sym (ap (levels_from inputs (take g levels)) starts) ∙ left.rest

      pub left_turn : (levels' : List ℕ) (most' g' : ℕ) → length levels' ≡ length levels → take (suc g) levels'
          ≡ take g levels ++ (v ∷ []) → most' ≡ max most v → g' ≡ suc g → Left levels' most' g'
      left_turn levels' most' g' long taken m e =
          let more = maximum_more (take g levels) v in
          rw e (record {
            order = omega arith;
            long = long ∙ left.long;
            rest = ap (λ (l : List ℕ). levels_from inputs l (drop (suc g) (gates_of table))) taken ∙ (unfold later in rest_after);
            good = subst (λ (n : ℕ). AllGood n (drop (suc g) (gates_of table))) (sym (add-suc inputs g)) (unfold later in good_here.1);
            most_is = m ∙ ap (λ (n : ℕ). max n v) left.most_is ∙ sym more ∙ ap maximum (sym taken);
            small = omega (arith, ap maximum taken, left.small, gate_most inputs (take g levels) x, mark_at_most_one x.kind, own);
          })

      -- if the table has another number here, its levels are not the list's own
      pub other : (get_or levels g 0 ≡ v → ⊥) → None ≡ compared inputs (gates_of table) levels
      unfolding compared
      other differs = go (same_numbers levels (levels_of inputs (gates_of table))) refl
        where
          next : List ℕ
          next = take g levels ++ (v ∷ [])

          at : get_or (levels_of inputs (gates_of table)) g 0 ≡ v
          at =
              ap (λ (l : List ℕ). get_or l g 0) (sym rest_after)
              ∙ levels_keep inputs (take g levels ++ (v ∷ [])) later g (omega (arith, length-append (take g levels) (v ∷ []), prefix_long))
              ∙ ap (λ (n : ℕ). get_or (take g levels ++ (v ∷ [])) n 0) (sym prefix_long) ∙ get_or-append_seam (take g levels) v [] 0

          go : (b : Bool) → same_numbers levels (levels_of inputs (gates_of table)) ≡ b → None
              ≡ cond b (Some (rounds_of inputs (gates_of table))) None
          go true e = absurd (differs (ap (λ (l : List ℕ). get_or l g 0) (same_true levels (levels_of inputs (gates_of table)) e) ∙ at))
          go false e = refl

  -- no gate is left
  pub left_end : (levels : List ℕ) (most g : ℕ) → Left levels most g → length (gates_of table) ≤ g
      → (levels ≡ levels_of inputs (gates_of table)) × (most ≡ rounds_of inputs (gates_of table))
  unfolding rounds_of levels_from
  left_end levels most g left h =
      let none : drop g (gates_of table) ≡ [] = drop_of_length-le (gates_of table) {i = g} h in
      let all : take g levels ≡ levels = take_all g levels (omega (arith, left.long)) in
      let e : levels ≡ levels_of inputs (gates_of table) = sym all ∙ sym (ap (levels_from inputs (take g levels)) none) ∙ left.rest in
      (e, left.most_is ∙ ap maximum (all ∙ e))

  pub own_levels : (levels : List ℕ) (most g : ℕ) → Left levels most g → length (gates_of table) ≤ g → (rounds : ℕ)
      → rounds ≡ most → Some rounds ≡ compared inputs (gates_of table) levels
  unfolding compared
  own_levels levels most g left h rounds e =
      let f = left_end levels most g left h in
      let same : same_numbers levels (levels_of inputs (gates_of table)) ≡ true = ap (same_numbers levels) (sym f.0) ∙ same_refl levels in
      rw same (ap Some (e ∙ f.1))

-- the level of one gate x, which is gate g of the table
module _ (inputs : ℕ) (table : List ℕ) (g : ℕ) (levels : List ℕ) (ready : LevelReady inputs table g levels)
    (x : Gate) (is : x ≡ gate_at table g) where
  a_below : x.a < inputs + g
  a_below = subst (λ (y : Gate). y.a < inputs + g) (sym is) ready.a_below

  b_below : x.b < inputs + g
  b_below = subst (λ (y : Gate). y.b < inputs + g) (sym is) ready.b_below

  c_below : x.c < inputs + g
  c_below = subst (λ (y : Gate). y.c < inputs + g) (sym is) ready.c_below

  -- an operand names an input or a gate whose level is known
  pub a_known : x.a < inputs + length levels
  a_known = let l = ready.in_levels in omega (arith, a_below)

  pub b_known : x.b < inputs + length levels
  b_known = let l = ready.in_levels in omega (arith, b_below)

  pub c_known : x.c < inputs + length levels
  c_known = let l = ready.in_levels in omega (arith, c_below)

  small_wire : (w : ℕ) → w < inputs + g → wire_level inputs levels w ≤ g
  unfolding wire_level
  small_wire w h = go (ltb w inputs) refl
    where
      go : (t : Bool) → ltb w inputs ≡ t → cond t 0 (get_or levels (w - inputs) 0) ≤ g
      go true e = omega arith
      go false e = ready.small (w - inputs) (omega (arith, ltb-false w inputs e))

  module _ (a b c : ℕ) (ea : a ≡ wire_level inputs levels x.a) (eb : b ≡ wire_level inputs levels x.b)
      (ec : c ≡ wire_level inputs levels x.c) where
    pub level_by : (d : ℕ) (m : Bool) → d ≡ max (max a b) c → m ≡ conditional_of x.kind → d
        + cond m 1 0 ≡ gate_level inputs levels (gate_at table g)
    unfolding gate_level
    level_by d m ed em = rw (ed, em, ea, eb, ec) (ap (gate_level inputs levels) is)

    pub small_level : (d : ℕ) → d ≡ max (max a b) c → d < 1048576
    small_level d ed =
        let f = ready.few in
        omega (arith, small_wire x.a a_below, small_wire x.b b_below, small_wire x.c c_below)

-- What the meetings of candidates before the last one say: who beats whom, by the strengths of the paths among three.
-- Assumes nothing.
use mathlib.Core.Path.{◌≡◌, ◌∙◌, refl, sym, ap, subst}
use mathlib.Core.Bool.{Bool, true}
use mathlib.Core.Logic.{inl, inr, ⊎_elim, ◌≢◌}
use mathlib.Core.List.{List, [], ◌∷◌, ◌++◌}
use Prim.Native.Nat.{ℕ, suc, min, max, ◌+◌, ◌-◌, ◌*◌, ◌≤◌, ◌<◌}
use native.Mathlib.Omega.{arith}
use lib.Dec.{ltb}
use borrow.Author.Tests.{ltb-true, lt-ltb}
use lib.ListN.{length, length-append}
use Rattle.gates.specs.Gate.{Gate}
use Rattle.gates.proofs.Laws.{AllGood, Holds, holds_append, good_two, operand_counts_lem, mux_zero, mux_one}
use Rattle.gate_words.specs.Gates.{and_of, mux_of}
use Rattle.gate_words.specs.Word.{number}
use Rattle.gate_words.proofs.Laws.{Binary}
use Rattle.gate_words.proofs.GateValues.{holds_first, holds_rest, and_is}
use Rattle.gate_words.proofs.PointsBack.{behind, good_mux}
use Rattle.basics.proofs.Cases.{below_or_not}
use Rattle.rule_schulze.proofs.LastDetour.{BeatsBySix}
use Rattle.ranked_circuit.specs.Blocks.{compare, strictly}
use Rattle.ranked_circuit.specs.Table.{table}
use Rattle.ranked_circuit.specs.Stages.{later_of, link_at}
use Rattle.ranked_circuit.specs.Contests.{meeting, meeting_of, meetings_block}
use Rattle.ranked_circuit.proofs.BlockLaws.{length_whole, length_strictly, whole_good, strictly_good, compare_up, compare_down, strictly_law}
use Rattle.ranked_circuit.proofs.LinkLaws.{later_start, later_holds, later_good, later_below, up_at, down_at}
use Rattle.ranked_circuit.proofs.TableLaws.{entry_start}
use Rattle.ranked_circuit.proofs.GoodLaws.{WordsBelow}
use Rattle.ranked_circuit.proofs.StageLaws.{up_last, down_last}

-- the bit says whether x is above y
abbrev pub Above : ℕ → ℕ → ℕ → Type 0
Above bit x y = (y < x → bit ≡ 1) × (x ≤ y → bit ≡ 0)

-- the bit says whether somebody beats another, by the strengths of `beats_by_six`
abbrev pub TellsSix : ℕ → ℕ → ℕ → ℕ → ℕ → ℕ → Type 0
TellsSix bit a b β α' β' = (BeatsBySix a b β α' β' → bit ≡ 1) × ((BeatsBySix a b β α' β' → ⊥) → bit ≡ 0)

pub same_six : (bit a b β α' β' a₁ b₁ β₁ α₁ β₂ : ℕ) → a ≡ a₁ → b ≡ b₁ → β ≡ β₁ → α' ≡ α₁ → β' ≡ β₂
    → TellsSix bit a b β α' β' → TellsSix bit a₁ b₁ β₁ α₁ β₂
same_six bit a b β α' β' a₁ b₁ β₁ α₁ β₂ ea eb eβ eα eβ' t =
    subst (λ (x : ℕ). TellsSix bit a₁ b₁ β₁ α₁ x) eβ'
    (subst (λ (x : ℕ). TellsSix bit a₁ b₁ β₁ x β') eα
    (subst (λ (x : ℕ). TellsSix bit a₁ b₁ x α' β') eβ
    (subst (λ (x : ℕ). TellsSix bit a₁ x β α' β') eb (subst (λ (x : ℕ). TellsSix bit x b β α' β') ea t))))

-- one way: the last gates are an "and" and a choice
choice_law : (a b β α' β' near met back far both bit : ℕ) → Above near β β' → Above met α' β' → Above back b a
    → Above far b β → both ≡ min back far
    → (near ≡ 1 → bit ≡ met) → (near ≡ 0 → bit ≡ both) → TellsSix bit a b β α' β'
choice_law a b β α' β' near met back far both bit n m k f e one zero = (beaten, unbeaten)
  where
    beaten : BeatsBySix a b β α' β' → bit ≡ 1
    beaten six =
        ⊎_elim (λ (p : (β' < β) × (β' < α')). one (n.0 p.0) ∙ m.0 p.1)
        (λ (p : (β ≤ β') × (a < b) × (β < b)). zero (n.1 p.0) ∙ e ∙ (let x = k.0 p.1 in let y = f.0 p.2 in omega arith)) six

    farther : (BeatsBySix a b β α' β' → ⊥) → β ≤ β' → both ≡ 0
    farther none l =
        ⊎_elim
        (λ (p : a < b). ⊎_elim (λ (q : β < b). absurd (none (inr (l, p, q))))
        (λ (q : b ≤ β). e ∙ (let y = f.1 q in omega arith)) (below_or_not β b))
        (λ (p : b ≤ a). e ∙ (let x = k.1 p in omega arith)) (below_or_not a b)

    unbeaten : (BeatsBySix a b β α' β' → ⊥) → bit ≡ 0
    unbeaten none =
        ⊎_elim
        (λ (l : β' < β). one (n.0 l) ∙ ⊎_elim (λ (q : β' < α'). absurd (none (inl (l, q)))) (λ (q : α' ≤ β'). m.1 q) (below_or_not β' α'))
        (λ (l : β ≤ β'). zero (n.1 l) ∙ farther none l) (below_or_not β' β)

module _ (li lj ij ji mi mj w at : ℕ) where
  abbrev c : ℕ
  c = 3 + 3 * w

  abbrev s : ℕ
  s = 2 + 2 * w

  abbrev first : List Gate
  first = compare at li lj w

  abbrev second : List Gate
  second = compare (at + c) ij ji w

  abbrev third : List Gate
  third = strictly (at + c + c) ij lj w

  abbrev fourth : List Gate
  fourth = strictly (at + c + c + s) ji li w

  -- the wire at which the last four gates start
  abbrev e : ℕ
  e = at + c + c + s + s

  abbrev lasts : List Gate
  lasts = mux_of (at + c - 1) mi e ∷ mux_of (at + c - 2) mj (e + 1) ∷ []

  abbrev ends : List Gate
  ends = and_of (at + c + c - 2) (at + c + c + s - 1) ∷ and_of (at + c + c - 1) (e - 1) ∷ lasts

  meeting_is : meeting li lj ij ji mi mj w at ≡ first ++ second ++ third ++ fourth ++ ends
  unfolding meeting
  meeting_is = refl

  two_long : length (first ++ second) ≡ c + c
  two_long = omega (arith, length-append first second, length_whole at li lj w, length_whole (at + c) ij ji w)

  three_long : length (first ++ second ++ third) ≡ c + c + s
  three_long = omega (arith, length-append (first ++ second) third, two_long, length_strictly (at + c + c) ij lj w)

  four_long : length (first ++ second ++ third ++ fourth) ≡ c + c + s + s
  four_long = omega (arith, length-append (first ++ second ++ third) fourth, three_long, length_strictly (at + c + c + s) ji li w)

  pub length_meeting : length (meeting li lj ij ji mi mj w at) ≡ c + c + s + s + 4
  length_meeting = ap length meeting_is ∙ omega (arith, length-append (first ++ second ++ third ++ fourth) ends, four_long)

  module _ (bli : li + suc w ≤ at) (blj : lj + suc w ≤ at) (bij : ij + suc w ≤ at) (bji : ji + suc w ≤ at)
      (bmi : mi < at) (bmj : mj < at) where
    ends_good : AllGood e ends
    ends_good = (
      good_two e 4 (at + c + c - 2) (at + c + c + s - 1) (omega arith) operand_counts_lem.4 (omega arith) (omega arith),
      (
        good_two (suc e) 4 (at + c + c - 1) (e - 1) (omega arith) operand_counts_lem.4 (omega arith) (omega arith),
        (
          good_mux (suc (suc e)) (at + c - 1) mi e (omega arith) (omega arith) (omega arith),
          (good_mux (suc (suc (suc e))) (at + c - 2) mj (e + 1) (omega arith) (omega arith) (omega arith), tt),
        ),
      ),
    )

    pub meeting_good : AllGood at (meeting li lj ij ji mi mj w at)
    meeting_good =
        let place₂ : at + (c + c) ≡ at + c + c = omega arith in
        let place₃ : at + (c + c + s) ≡ at + c + c + s = omega arith in
        let place₄ : at + (c + c + s + s) ≡ e = omega arith in
        subst (λ (gs : List Gate). AllGood at gs) (sym meeting_is)
        (behind at (c + c + s + s) (first ++ second ++ third ++ fourth) ends four_long
        (behind at (c + c + s) (first ++ second ++ third) fourth three_long
        (behind at (c + c) (first ++ second) third two_long
        (behind at c first second (length_whole at li lj w) (whole_good at li lj w bli blj)
        (whole_good (at + c) ij ji w (omega arith) (omega arith)))
        (subst (λ (x : ℕ). AllGood x third) (sym place₂) (strictly_good (at + c + c) ij lj w (omega arith) (omega arith))))
        (subst (λ (x : ℕ). AllGood x fourth) (sym place₃) (strictly_good (at + c + c + s) ji li w (omega arith) (omega arith))))
        (subst (λ (x : ℕ). AllGood x ends) (sym place₄) ends_good))

  module _ (W : ℕ → ℕ) (bin : Binary W) (h : Holds W at (meeting li lj ij ji mi mj w at)) where
    cut₄ : Holds W at (first ++ second ++ third ++ fourth) × Holds W e ends
    cut₄ =
        let p = holds_append W at (first ++ second ++ third ++ fourth) ends (subst (λ (gs : List Gate). Holds W at gs) meeting_is h) in
        let place : at + length (first ++ second ++ third ++ fourth) ≡ e = omega (arith, four_long) in
        (p.0, subst (λ (x : ℕ). Holds W x ends) place p.1)

    cut₃ : Holds W at (first ++ second ++ third) × Holds W (at + c + c + s) fourth
    cut₃ =
        let p = holds_append W at (first ++ second ++ third) fourth cut₄.0 in
        let place : at + length (first ++ second ++ third) ≡ at + c + c + s = omega (arith, three_long) in
        (p.0, subst (λ (x : ℕ). Holds W x fourth) place p.1)

    cut₂ : Holds W at (first ++ second) × Holds W (at + c + c) third
    cut₂ =
        let p = holds_append W at (first ++ second) third cut₃.0 in
        let place : at + length (first ++ second) ≡ at + c + c = omega (arith, two_long) in
        (p.0, subst (λ (x : ℕ). Holds W x third) place p.1)

    cut₁ : Holds W at first × Holds W (at + c) second
    cut₁ =
        let p = holds_append W at first second cut₂.0 in
        (p.0, subst (λ (x : ℕ). Holds W (at + x) second) (length_whole at li lj w) p.1)

    -- the number in the word at x
    abbrev spelt : ℕ → ℕ
    spelt x = number W x 1 (suc w)

    first_up : Above (W (at + c - 2)) (spelt li) (spelt lj)
    first_up = subst (λ (x : ℕ). Above (W x) (spelt li) (spelt lj)) (up_last at w) (compare_up W bin at li lj w cut₁.0)

    first_down : Above (W (at + c - 1)) (spelt lj) (spelt li)
    first_down = subst (λ (x : ℕ). Above (W x) (spelt lj) (spelt li)) (down_last at w) (compare_down W bin at li lj w cut₁.0)

    second_up : Above (W (at + c + c - 2)) (spelt ij) (spelt ji)
    second_up = subst (λ (x : ℕ). Above (W x) (spelt ij) (spelt ji)) (up_last (at + c) w) (compare_up W bin (at + c) ij ji w cut₁.1)

    second_down : Above (W (at + c + c - 1)) (spelt ji) (spelt ij)
    second_down = subst (λ (x : ℕ). Above (W x) (spelt ji) (spelt ij)) (down_last (at + c) w)
        (compare_down W bin (at + c) ij ji w cut₁.1)

    third_tells : Above (W (at + c + c + s - 1)) (spelt ij) (spelt lj)
    third_tells =
        let place : at + c + c + 2 * w + 1 ≡ at + c + c + s - 1 = omega arith in
        subst (λ (x : ℕ). Above (W x) (spelt ij) (spelt lj)) place (strictly_law W bin (at + c + c) ij lj w cut₂.1)

    fourth_tells : Above (W (e - 1)) (spelt ji) (spelt li)
    fourth_tells =
        let place : at + c + c + s + 2 * w + 1 ≡ e - 1 = omega arith in
        subst (λ (x : ℕ). Above (W x) (spelt ji) (spelt li)) place (strictly_law W bin (at + c + c + s) ji li w cut₃.1)

    forth_is : W e ≡ min (W (at + c + c - 2)) (W (at + c + c + s - 1))
    forth_is = holds_first W e (and_of (at + c + c - 2) (at + c + c + s - 1))
        (and_of (at + c + c - 1) (e - 1) ∷ lasts) cut₄.1 ∙ and_is W bin (at + c + c - 2) (at + c + c + s - 1)

    behind_forth : Holds W (e + 1) (and_of (at + c + c - 1) (e - 1) ∷ lasts)
    behind_forth = holds_rest W e (and_of (at + c + c - 2) (at + c + c + s - 1)) (and_of (at + c + c - 1) (e - 1) ∷ lasts) cut₄.1

    back_is : W (e + 1) ≡ min (W (at + c + c - 1)) (W (e - 1))
    back_is = holds_first W (e + 1) (and_of (at + c + c - 1) (e - 1)) lasts behind_forth ∙ and_is W bin (at + c + c - 1) (e - 1)

    choices : Holds W (e + 1 + 1) lasts
    choices = holds_rest W (e + 1) (and_of (at + c + c - 1) (e - 1)) lasts behind_forth

    -- whether i beats j, and whether j beats i
    pub meeting_up : (il : ℕ) → Above (W mi) il (spelt li) → TellsSix (W (e + 2)) (spelt ji) (spelt ij) (spelt lj) il (spelt li)
    meeting_up il m =
        let g = holds_first W (e + 1 + 1) (mux_of (at + c - 1) mi e) (mux_of (at + c - 2) mj (e + 1) ∷ []) choices in
        let place : e + 1 + 1 ≡ e + 2 = omega arith in
        subst (λ (x : ℕ). TellsSix (W x) (spelt ji) (spelt ij) (spelt lj) il (spelt li)) place
        (choice_law (spelt ji) (spelt ij) (spelt lj) il (spelt li) (W (at + c - 1)) (W mi) (W (at + c + c - 2))
        (W (at + c + c + s - 1)) (W e) (W (e + 1 + 1))
        first_down m second_up third_tells forth_is (λ z. g ∙ mux_one (W (at + c - 1)) (W mi) (W e) z)
        (λ z. g ∙ mux_zero (W (at + c - 1)) (W mi) (W e) z))

    pub meeting_down : (jl : ℕ) → Above (W mj) jl (spelt lj) → TellsSix (W (e + 3)) (spelt ij) (spelt ji) (spelt li) jl (spelt lj)
    meeting_down jl m =
        let rest = holds_rest W (e + 1 + 1) (mux_of (at + c - 1) mi e) (mux_of (at + c - 2) mj (e + 1) ∷ []) choices in
        let g = holds_first W (e + 1 + 1 + 1) (mux_of (at + c - 2) mj (e + 1)) [] rest in
        let place : e + 1 + 1 + 1 ≡ e + 3 = omega arith in
        subst (λ (x : ℕ). TellsSix (W x) (spelt ij) (spelt ji) (spelt li) jl (spelt lj)) place
        (choice_law (spelt ij) (spelt ji) (spelt li) jl (spelt lj) (W (at + c - 2)) (W mj) (W (at + c + c - 1))
        (W (e - 1)) (W (e + 1)) (W (e + 1 + 1 + 1))
        first_up m second_down fourth_tells back_is (λ z. g ∙ mux_one (W (at + c - 2)) (W mj) (W (e + 1)) z)
        (λ z. g ∙ mux_zero (W (at + c - 2)) (W mj) (W (e + 1)) z))

-- the table of the meetings
module _ (l : ℕ) (words met : ℕ → ℕ → ℕ) (w n k : ℕ) where
  abbrev pub before : ℕ → Bool
  before i = ltb i l

  pub meetings_are : meetings_block l words met w ≡ later_of before (meeting_of l words met w)
  unfolding meetings_block
  meetings_are = refl

  pub meetings_good : l < k → WordsBelow k w words n → ((i : ℕ) → i < l → met i l < n) → AllGood n (table n k (meetings_block l words met w))
  meetings_good low below met_below =
      rw meetings_are (later_good before (meeting_of l words met w) n k each)
    where
      each : (i j : ℕ) → i < k → j < k → j < i → ltb i l ≡ true
          → AllGood (entry_start n k (later_of before (meeting_of l words met w)) i j)
          (meeting_of l words met w (entry_start n k (later_of before (meeting_of l words met w)) i j) i j)
      each i j hi hj q row =
          let r : i < l = ltb-true i l row in
          let mi = met_below i r in
          let mj = met_below j (omega arith) in
          meeting_good (words l i) (words l j) (words i j) (words j i) (met i l) (met j l) w
          (entry_start n k (later_of before (meeting_of l words met w)) i j)
          (omega (arith, below l i low hi (λ z. omega arith))) (omega (arith, below l j low hj (λ z. omega arith)))
          (omega (arith, below i j hi hj (λ z. omega arith))) (omega (arith, below j i hj hi (λ z. omega arith)))
          (omega arith) (omega arith)

  pub meetings_below : (i j : ℕ) → i < k → j < k → i ≢ j → max i j < l
      → link_at n k (meetings_block l words met w) i j < n + length (table n k (meetings_block l words met w))
  meetings_below i j hi hj ne row =
      rw meetings_are (later_below before (meeting_of l words met w) n k
      (λ at i j q. omega (
        arith,
        length_meeting (words l i) (words l j) (words i j) (words j i) (met i l) (met j l)
            w at,
      )) i j hi hj ne (lt-ltb (max i j) l row))

  module _ (W : ℕ → ℕ) (bin : Binary W) (h : Holds W n (table n k (meetings_block l words met w)))
      (told : (i : ℕ) → i < l → Above (W (met i l)) (number W (words i l) 1 (suc w)) (number W (words l i) 1 (suc w))) where
    abbrev spells : ℕ → ℕ → ℕ
    spells x y = number W (words x y) 1 (suc w)

    abbrev Says : ℕ → ℕ → ℕ → Type 0
    Says wire i j = TellsSix (W wire) (spells j i) (spells i j) (spells l j) (spells i l) (spells l i)

    held : Holds W n (table n k (later_of before (meeting_of l words met w)))
    held = rw meetings_are at h

    later : (i j : ℕ) → i < k → j < k → j < i → i < l
        → Says (link_at n k (later_of before (meeting_of l words met w)) i j) i j
        × Says (link_at n k (later_of before (meeting_of l words met w)) j i) j i
    later i j hi hj q r =
        let row = lt-ltb i l r in
        let at = later_start before (meeting_of l words met w) n k i j hi hj q row in
        let long = length_meeting (words l i) (words l j) (words i j) (words j i) (met i l) (met j l) w at in
        let g = later_holds before (meeting_of l words met w) n k i j hi hj q row W held in
        let up : link_at n k (later_of before (meeting_of l words met w)) i j ≡ at + (3 + 3 * w) + (3 + 3 * w)
        + (2 + 2 * w) + (2 + 2 * w) + 2 = up_at before (meeting_of l words met w) n k i j hi hj q row
        ∙ omega arith in
        let down : link_at n k (later_of before (meeting_of l words met w)) j i ≡ at + (3 + 3 * w) + (3 + 3 * w)
        + (2 + 2 * w) + (2 + 2 * w) + 3 = down_at before (meeting_of l words met w) n k i j hi hj q row
        ∙ omega arith in (
          subst (λ (x : ℕ). Says x i j) (sym up)
              (meeting_up (words l i) (words l j) (words i j) (words j i) (met i l) (met j l) w at W bin g
              (spells i l) (told i r)),
          subst (λ (x : ℕ). Says x j i) (sym down)
              (meeting_down (words l i) (words l j) (words i j) (words j i) (met i l) (met j l) w at W bin g
              (spells j l) (told j (omega arith))),
        )

    -- whether i beats j
    pub meeting_told : (i j : ℕ) → i < k → j < k → i ≢ j → max i j < l → Says (link_at n k (meetings_block l words met w) i j) i j
    meeting_told i j hi hj ne row =
        rw meetings_are
        (⊎_elim (λ (q : j < i). (later i j hi hj q (omega arith)).0)
        (λ (q : i ≤ j). (later j i hj hi (omega arith) (omega arith)).1) (below_or_not j i))

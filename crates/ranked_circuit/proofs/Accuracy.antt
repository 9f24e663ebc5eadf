-- The own list of a ranked tasting is accurate: its last gates say who wins by Schulze's rule.
-- Assumes nothing.
use mathlib.Core.Path.{◌≡◌, ◌∙◌, refl, sym, ap, subst}
use mathlib.Core.Bool.{Bool, true, cond, ◌||◌}
use mathlib.Core.Logic.{⊎_elim, ◌≢◌, ◌↔◌}
use mathlib.Core.List.{List, [], ◌∷◌, ◌++◌}
use Prim.Native.Nat.{ℕ, zero, suc, max, ◌+◌, ◌-◌, ◌*◌, ◌≤◌, ◌<◌}
use lib.Dec.{eqb}
use borrow.Author.Tests.{eq-eqb, lt-ltb, le-ltb}
use native.Mathlib.Omega.{arith}
use lib.ListN.{length, length-append}
use Rattle.gates.specs.Gate.{Gate}
use Rattle.gates.proofs.Laws.{AllGood, Holds, holds_append, good_append, good_one, operand_counts_lem}
use Rattle.gate_words.specs.Gates.{not_of}
use Rattle.gate_words.specs.Word.{ones_at, number}
use Rattle.gate_words.specs.Counter.{Countable}
use Rattle.gate_words.proofs.Laws.{Binary, bit_cases}
use Rattle.gate_words.proofs.GateValues.{not_is}
use Rattle.basics.proofs.Arithmetic.{row_within}
use Rattle.basics.proofs.Cases.{below_or_not, same_or_not}
use Rattle.basics.proofs.Flags.{never_true, or_first, or_second}
use Rattle.rule_schulze.specs.Schulze.{link, strongest, wins}
use Rattle.rule_schulze.proofs.Winning.{wins_unbeaten, unbeaten_wins, link_won, link_lost}
use Rattle.rule_schulze.specs.Closure.{detour, closure}
use Rattle.rule_schulze.proofs.Paths.{closure_strongest}
use Rattle.rule_schulze.proofs.LastDetour.{BeatsBySix, before, last_to, last_from, beats_by_six}
use Rattle.rule_schulze.proofs.Tables.{detour_stays}
use Rattle.ranked_circuit.specs.Table.{blocks}
use Rattle.ranked_circuit.specs.Paths.{link_wire, paths_to}
use Rattle.ranked_circuit.specs.Contests.{duels_from, duels, duel_at, meetings_from, meetings, meeting_at, beats_at}
use Rattle.ranked_circuit.specs.RankedList.{other, joined_wire, loser_row, loser_rows, output_gates, losers_from, pair_from, ranked_list}
use Rattle.ranked_circuit.proofs.TableLaws.{start_of, length_same, block_holds, blocks_good}
use Rattle.ranked_circuit.proofs.StageLaws.{link_told}
use Rattle.ranked_circuit.proofs.PathLaws.{links_told, paths_spelled, after_detours}
use Rattle.ranked_circuit.proofs.GoodLaws.{WordsBelow, WiresBelow, links_good, links_below, link_below, words_below, paths_good}
use Rattle.ranked_circuit.proofs.ContestLaws.{Above, TellsSix, same_six, meetings_good, meetings_below, meeting_told}
use Rattle.ranked_circuit.proofs.LoserLaws.{other_apart, other_low, other_found, row_length, item_before, row_good, lost_zero, lost_one}

-- Rows and output gates for r + 2 candidates, from wire n on.
module _ (beats : ℕ → ℕ → ℕ) (r n : ℕ) where
  abbrev k : ℕ
  k = suc (suc r)

  rows_start : (i : ℕ) → start_of n (loser_row beats r) i ≡ n + i * r
  rows_start i = omega (arith, length_same n (loser_row beats r) r (λ at i. row_length beats r at i) i)

  pub rows_length : length (loser_rows beats r n k) ≡ k * r
  unfolding loser_rows
  rows_length = length_same n (loser_row beats r) r (λ at i. row_length beats r at i) k

  abbrev output : ℕ → ℕ → List Gate
  output wire i = not_of (joined_wire beats (suc r) (n + i * r) i (2 * r)) ∷ []

  output_start : (i : ℕ) → start_of (n + k * r) output i ≡ n + k * r + i
  output_start i = omega (arith, length_same (n + k * r) output 1 (λ wire i. refl) i)

  pub outputs_length : length (output_gates beats r n k) ≡ k
  unfolding output_gates
  outputs_length = omega (arith, length_same (n + k * r) output 1 (λ wire i. refl) k)

  pub rows_good : WiresBelow k beats n → AllGood n (loser_rows beats r n k)
  unfolding loser_rows
  rows_good below =
      blocks_good n (loser_row beats r) k
      (λ i l. row_good beats r (start_of n (loser_row beats r) i) i
      (λ s q. let h = below (other i s) i (other_low i s r q) l (other_apart i s) in omega arith))

  pub outputs_good : WiresBelow k beats n → AllGood (n + k * r) (output_gates beats r n k)
  unfolding output_gates
  outputs_good below =
      blocks_good (n + k * r) output k
      (λ i l.
      let rows : i * r + r ≤ k * r = row_fits i l in
      let wire = start_of (n + k * r) output i in
      let low : joined_wire beats (suc r) (n + i * r) i (2 * r) < wire =
      item_before beats r (n + i * r) i wire r (2 * r) (omega arith) (omega arith)
      (λ s q. let h = below (other i s) i (other_low i s r q) l (other_apart i s) in omega arith) in
      (good_one wire 3 (joined_wire beats (suc r) (n + i * r) i (2 * r)) (omega arith) operand_counts_lem.3 low, tt))
    where
      row_fits : (i : ℕ) → i < k → i * r + r ≤ k * r
      row_fits i l = omega (arith, row_within i k r l)

  module _ (W : ℕ → ℕ) (b : Binary W) (v : ℕ → ℕ → ℕ) (rows : Holds W n (loser_rows beats r n k))
      (outputs : Holds W (n + k * r) (output_gates beats r n k))
      (i : ℕ) (hi : i < k)
      (winner_unbeaten : wins v k i ≡ true → (j : ℕ) → j < k → j ≢ i → W (beats j i) ≡ 0)
      (unbeaten_winner : ((j : ℕ) → j < k → j ≢ i → W (beats j i) ≡ 0) → wins v k i ≡ true) where
    lost : ℕ
    lost = joined_wire beats (suc r) (n + i * r) i (2 * r)

    row_holds : Holds W (n + i * r) (loser_row beats r (n + i * r) i)
    unfolding loser_rows
    row_holds = subst (λ (at : ℕ). Holds W at (loser_row beats r at i)) (rows_start i) (block_holds n (loser_row beats r) W k i hi rows)

    winner_unlost : wins v k i ≡ true → W lost ≡ 0
    unfolding lost
    winner_unlost e = lost_zero beats r (n + i * r) i W b row_holds
        (λ s q. winner_unbeaten e (other i s) (other_low i s r q) (other_apart i s))

    unlost_winner : W lost ≡ 0 → wins v k i ≡ true
    unfolding lost
    unlost_winner z =
        unbeaten_winner
        (λ j hj ne.
        ⊎_elim (λ (e : W (beats j i) ≡ 0). e)
        (λ (e : W (beats j i) ≡ 1).
        let f = other_found i j r hi hj ne in
        let one = lost_one beats r (n + i * r) i W b row_holds f.0 f.1 (ap (λ (x : ℕ). W (beats x i)) f.2 ∙ e) in
        absurd (omega (arith, z, one)))
        (bit_cases (W (beats j i)) (b (beats j i))))

    output_is : W (n + k * r + i) ≡ 1 - W lost
    unfolding output_gates lost
    output_is = ap W (sym (output_start i)) ∙ (block_holds (n + k * r) output W k i hi outputs).0
        ∙ not_is W b (joined_wire beats (suc r) (n + i * r) i (2 * r))

    -- output gate i says whether i wins
    pub output_law : W (n + k * r + i) ≡ cond (wins v k i) 1 0
    output_law =
        ⊎_elim (λ (z : W lost ≡ 0). let one : W (n + k * r + i) ≡ 1 = omega (arith, output_is) in one
        ∙ sym (ap (λ (c : Bool). cond {A = ℕ} c 1 0) (unlost_winner z)))
        (λ (z : W lost ≡ 1).
        let none : W (n + k * r + i) ≡ 0 = omega (arith, output_is) in
        none ∙ sym (ap (λ (c : Bool). cond {A = ℕ} c 1 0) (never_true (wins v k i) (λ e. let y = winner_unlost e in omega arith))))
        (bit_cases (W lost) (b lost))

module _ (r n w : ℕ) where
  abbrev k₂ : ℕ
  k₂ = suc (suc (suc r))

  unfoldable pub path_gates : List Gate
  path_gates = (paths_to k₂ n w k₂).gates

  unfoldable pub duel_gates : List Gate
  duel_gates = duels k₂ n w

  unfoldable pub meeting_gates : List Gate
  meeting_gates = meetings k₂ n w

  unfoldable pub row_gates : List Gate
  row_gates = loser_rows (beats_at k₂ n w) (suc r) (losers_from k₂ n w) k₂

  unfoldable pub last_gates : List Gate
  last_gates = output_gates (beats_at k₂ n w) (suc r) (losers_from k₂ n w) k₂

  pub list_is : ranked_list (suc (suc (suc r))) n w ≡ path_gates ++ duel_gates ++ meeting_gates ++ row_gates ++ last_gates
  unfolding ranked_list path_gates duel_gates meeting_gates row_gates last_gates
  list_is = refl

  paths_end : n * k₂ * k₂ + length path_gates ≡ duels_from k₂ n w
  unfolding path_gates duels_from
  paths_end = refl

  duels_end : n * k₂ * k₂ + length (path_gates ++ duel_gates) ≡ meetings_from k₂ n w
  unfolding meetings_from duel_gates
  duels_end = omega (arith, length-append path_gates duel_gates, paths_end)

  meetings_end : n * k₂ * k₂ + length (path_gates ++ duel_gates ++ meeting_gates) ≡ losers_from k₂ n w
  unfolding losers_from meeting_gates
  meetings_end = omega (arith, length-append (path_gates ++ duel_gates) meeting_gates, duels_end)

  rows_end : n * k₂ * k₂ + length (path_gates ++ duel_gates ++ meeting_gates ++ row_gates) ≡ losers_from k₂ n w + k₂ * suc r
  unfolding row_gates
  rows_end = omega (
    arith,
    length-append (path_gates ++ duel_gates ++ meeting_gates) row_gates,
    meetings_end,
    rows_length (beats_at k₂ n w) (suc r) (losers_from k₂ n w),
  )

  -- the output gates are the last k
  several_end : n * k₂ * k₂ + length (ranked_list (suc (suc (suc r))) n w) ≡ losers_from k₂ n w + k₂ * suc r + k₂
  unfolding last_gates
  several_end = omega (
    arith,
    ap length list_is,
    length-append (path_gates ++ duel_gates ++ meeting_gates ++ row_gates) last_gates,
    rows_end,
    outputs_length (beats_at k₂ n w) (suc r) (losers_from k₂ n w),
  )

  -- the places of the paths' words, and the last candidate
  abbrev words₂ : ℕ → ℕ → ℕ
  words₂ = (paths_to k₂ n w k₂).words

  abbrev l₂ : ℕ
  l₂ = k₂ - 1

  last_is : l₂ ≡ suc (suc r)
  last_is = omega arith

  duel_below : (i j : ℕ) → i < k₂ → j < k₂ → i ≢ j → l₂ ≤ max i j → duel_at k₂ n w i j < meetings_from k₂ n w
  unfolding duel_at meetings_from duels
  duel_below i j hi hj ne row = links_below k₂ w (k₂ - 1) words₂ (duels_from k₂ n w) i j hi hj ne row

  beats_below : WiresBelow k₂ (beats_at k₂ n w) (losers_from k₂ n w)
  unfolding beats_at losers_from
  beats_below i j hi hj ne =
      ⊎_elim
      (λ (q : max i j < l₂).
      subst (λ (c : Bool). cond c (meeting_at k₂ n w i j) (duel_at k₂ n w i j) < meetings_from k₂ n w
      + length (meetings k₂ n w)) (sym (lt-ltb (max i j) l₂ q))
      (unfold meeting_at meetings in (meetings_below l₂ words₂ (duel_at k₂ n w) w (meetings_from k₂ n w) k₂ i j hi hj ne q)))
      (λ (q : l₂ ≤ max i j).
      subst (λ (c : Bool). cond c (meeting_at k₂ n w i j) (duel_at k₂ n w i j) < meetings_from k₂ n w
      + length (meetings k₂ n w)) (sym (le-ltb (max i j) l₂ q))
      (omega (arith, duel_below i j hi hj ne q)))
      (below_or_not (max i j) l₂)

  several_good : Countable n 0 w → AllGood (n * k₂ * k₂) (ranked_list (suc (suc (suc r))) n w)
  several_good c =
      subst (λ (gs : List Gate). AllGood (n * k₂ * k₂) gs) (sym list_is)
      (good_append (n * k₂ * k₂) (path_gates ++ duel_gates ++ meeting_gates ++ row_gates) last_gates
      (good_append (n * k₂ * k₂) (path_gates ++ duel_gates ++ meeting_gates) row_gates
      (good_append (n * k₂ * k₂) (path_gates ++ duel_gates) meeting_gates
      (good_append (n * k₂ * k₂) path_gates duel_gates paths (subst (λ (l : ℕ). AllGood l duel_gates) (sym paths_end) met))
      (subst (λ (l : ℕ). AllGood l meeting_gates) (sym duels_end) others))
      (subst (λ (l : ℕ). AllGood l row_gates) (sym meetings_end) rows))
      (subst (λ (l : ℕ). AllGood l last_gates) (sym rows_end) outputs))
    where
      paths : AllGood (n * k₂ * k₂) path_gates
      paths = unfold path_gates in (paths_good k₂ n w c k₂ (omega arith))

      met : AllGood (duels_from k₂ n w) duel_gates
      met = unfold duel_gates duels duels_from in (links_good k₂ w (k₂ - 1) words₂ (duels_from k₂ n w) (words_below k₂ n w k₂))

      after : WordsBelow k₂ w words₂ (meetings_from k₂ n w)
      after i j hi hj ne = unfold meetings_from duels_from in (omega (arith, words_below k₂ n w k₂ i j hi hj ne))

      others : AllGood (meetings_from k₂ n w) meeting_gates
      others =
          unfold meeting_gates meetings in
          (meetings_good l₂ words₂ (duel_at k₂ n w) w (meetings_from k₂ n w) k₂ (omega arith) after
          (λ i q. duel_below i l₂ (omega arith) (omega arith) (λ z. omega arith) (omega arith)))

      rows : AllGood (losers_from k₂ n w) row_gates
      rows = unfold row_gates in (rows_good (beats_at k₂ n w) (suc r) (losers_from k₂ n w) beats_below)

      outputs : AllGood (losers_from k₂ n w + k₂ * suc r) last_gates
      outputs = unfold last_gates in (outputs_good (beats_at k₂ n w) (suc r) (losers_from k₂ n w) beats_below)

  module _ (W : ℕ → ℕ) (b : Binary W) (v : ℕ → ℕ → ℕ) (countable : Countable n 0 w)
      (counted : (i j : ℕ) → i < k₂ → j < k₂ → i ≢ j → ones_at W (i * k₂ + j) (k₂ * k₂) n ≡ v i j)
      (h : Holds W (n * k₂ * k₂) (ranked_list (suc (suc (suc r))) n w)) where
    whole : Holds W (n * k₂ * k₂) (path_gates ++ duel_gates ++ meeting_gates ++ row_gates ++ last_gates)
    whole = subst (λ (gs : List Gate). Holds W (n * k₂ * k₂) gs) list_is h

    before_outputs : Holds W (n * k₂ * k₂) (path_gates ++ duel_gates ++ meeting_gates ++ row_gates)
        × Holds W (losers_from k₂ n w + k₂ * suc r) last_gates
    before_outputs =
        let p = holds_append W (n * k₂ * k₂) (path_gates ++ duel_gates ++ meeting_gates ++ row_gates) last_gates whole in
        (p.0, subst (λ (l : ℕ). Holds W l last_gates) rows_end p.1)

    before_rows : Holds W (n * k₂ * k₂) (path_gates ++ duel_gates ++ meeting_gates) × Holds W (losers_from k₂ n w) row_gates
    before_rows =
        let p = holds_append W (n * k₂ * k₂) (path_gates ++ duel_gates ++ meeting_gates) row_gates before_outputs.0 in
        (p.0, subst (λ (l : ℕ). Holds W l row_gates) meetings_end p.1)

    before_meetings : Holds W (n * k₂ * k₂) (path_gates ++ duel_gates) × Holds W (meetings_from k₂ n w) meeting_gates
    before_meetings =
        let p = holds_append W (n * k₂ * k₂) (path_gates ++ duel_gates) meeting_gates before_rows.0 in
        (p.0, subst (λ (l : ℕ). Holds W l meeting_gates) duels_end p.1)

    before_duels : Holds W (n * k₂ * k₂) path_gates × Holds W (duels_from k₂ n w) duel_gates
    before_duels =
        let p = holds_append W (n * k₂ * k₂) path_gates duel_gates before_meetings.0 in
        (p.0, subst (λ (l : ℕ). Holds W l duel_gates) paths_end p.1)

    -- the strengths of the strongest paths, and of those that avoid the last candidate
    abbrev all : ℕ → ℕ → ℕ
    all = strongest (link v) k₂

    abbrev part : ℕ → ℕ → ℕ
    part = before (link v) (suc (suc r))

    abbrev spelt : ℕ → ℕ → ℕ
    spelt i j = number W (words₂ i j) 1 (suc w)

    spelled : (i j : ℕ) → i < k₂ → j < k₂ → i ≢ j → spelt i j ≡ part i j
    unfolding path_gates
    spelled i j hi hj ne = paths_spelled k₂ n w W b v countable counted k₂ (omega arith) before_duels.0 i j hi hj
        ne ∙ after_detours v (suc r) i j

    -- what a duel says: whether i beats j, if one of them is the last
    duel_told : (i j : ℕ) → i < k₂ → j < k₂ → i ≢ j → l₂ ≤ max i j → Above (W (duel_at k₂ n w i j)) (spelt i j) (spelt j i)
    unfolding duel_gates duels duel_at
    duel_told = link_told W b words₂ spelt k₂ w (λ i j hi hj ne. refl) (k₂ - 1) (duels_from k₂ n w) before_duels.1

    -- a strongest path to or from the last candidate does not pass through it in between
    part_all : (i j : ℕ) → i < k₂ → j < k₂ → i ≢ j → l₂ ≤ max i j → part i j ≡ all i j
    part_all i j hi hj ne row = ⊎_elim to from (below_or_not i (suc (suc r)))
      where
        to : i < suc (suc r) → part i j ≡ all i j
        to q = let e : j ≡ suc (suc r) = omega arith in rw e (last_to (link v) (suc (suc r)) i q)

        from : suc (suc r) ≤ i → part i j ≡ all i j
        from q = let e : i ≡ suc (suc r) = omega arith in rw e (last_from (link v) (suc (suc r)) j (omega arith))

    last_told : (i j : ℕ) → i < k₂ → j < k₂ → i ≢ j → l₂ ≤ max i j → Above (W (beats_at k₂ n w i j)) (all i j) (all j i)
    unfolding beats_at
    last_told i j hi hj ne row =
        let t = duel_told i j hi hj ne row in
        let ji : j ≢ i = λ e. ne (sym e) in
        let here = spelled i j hi hj ne ∙ part_all i j hi hj ne row in
        let back = spelled j i hj hi ji ∙ part_all j i hj hi ji (omega arith) in
        subst (λ (c : Bool). Above (W (cond c (meeting_at k₂ n w i j) (duel_at k₂ n w i j))) (all i j) (all j i))
        (sym (le-ltb (max i j) l₂ row))
        ((λ q. t.0 (omega arith)), (λ q. t.1 (omega arith)))

    -- what a meeting says: whether i beats j, if neither is the last
    abbrev L : ℕ
    L = suc (suc r)

    other_told : (i j : ℕ) → i < L → j < L → i ≢ j
        → TellsSix (W (beats_at k₂ n w i j)) (part j i) (part i j) (part L j) (part i L) (part L i)
    other_told i j hi hj ne =
        let ji : j ≢ i = λ e. ne (sym e) in
        let from : (x : ℕ) → x < L → spelt l₂ x ≡ part L x =
        λ x hx. spelled l₂ x (omega arith) (omega arith) (λ z. omega arith) ∙ ap (λ (y : ℕ). part y x) last_is in
        let to : spelt i l₂ ≡ part i L = spelled i l₂ (omega arith) (omega arith) (λ z. omega arith) ∙ ap (part i) last_is in
        same_six (W (beats_at k₂ n w i j)) (spelt j i) (spelt i j) (spelt l₂ j) (spelt i l₂) (spelt l₂ i) (part j i)
        (part i j) (part L j) (part i L) (part L i)
        (spelled j i (omega arith) (omega arith) ji) (spelled i j (omega arith) (omega arith) ne) (from j hj) to (from i hi) tells
      where
        met : TellsSix (W (meeting_at k₂ n w i j)) (spelt j i) (spelt i j) (spelt l₂ j) (spelt i l₂) (spelt l₂ i)
        met =
            unfold meeting_gates meetings meeting_at in
            (meeting_told l₂ words₂ (duel_at k₂ n w) w (meetings_from k₂ n w) k₂ W b before_meetings.1
            (λ x hx. duel_told x l₂ (omega arith) (omega arith) (λ z. omega arith) (omega arith)) i j (omega arith)
            (omega arith) ne (omega arith))

        tells : TellsSix (W (beats_at k₂ n w i j)) (spelt j i) (spelt i j) (spelt l₂ j) (spelt i l₂) (spelt l₂ i)
        tells =
            unfold beats_at in
            (subst (λ (c : Bool). TellsSix (W (cond c (meeting_at k₂ n w i j) (duel_at k₂ n w i j))) (spelt j i)
            (spelt i j) (spelt l₂ j) (spelt i l₂) (spelt l₂ i)) (sym (lt-ltb (max i j) l₂ (omega arith))) met)

    -- if the last candidate does not beat i, six strengths say whether j beats i
    by_six : (i j : ℕ) → i < L → j < L → i ≢ j → all L i ≤ all i L
        → (all i j < all j i) ↔ BeatsBySix (part i j) (part j i) (part L i) (part j L) (part L j)
    by_six i j hi hj ne u = beats_by_six (link v) L i j hi hj ne (omega (arith, last_to (link v) L i hi, last_from (link v) L i hi))

    -- nobody beats a winner
    winner : (i : ℕ) → i < k₂ → wins v k₂ i ≡ true → (j : ℕ) → j < k₂ → j ≢ i → W (beats_at k₂ n w j i) ≡ 0
    winner i hi e j hj ne = ⊎_elim other last (below_or_not (max j i) L)
      where
        unbeaten : all j i ≤ all i j
        unbeaten = wins_unbeaten v k₂ i e j hj ne

        other : max j i < L → W (beats_at k₂ n w j i) ≡ 0
        other q =
            let u = wins_unbeaten v k₂ i e L (omega arith) (λ z. omega arith) in
            (other_told j i (omega arith) (omega arith) ne).1
            (λ six. let l = (by_six i j (omega arith) (omega arith) (λ z. ne (sym z)) u).1 six in
            omega (arith, unbeaten))

        last : L ≤ max j i → W (beats_at k₂ n w j i) ≡ 0
        last q = (last_told j i hj hi ne (omega arith)).1 unbeaten

    -- a candidate that nobody beats wins
    unbeaten_wins_here : (i : ℕ) → i < k₂ → ((j : ℕ) → j < k₂ → j ≢ i → W (beats_at k₂ n w j i) ≡ 0) → wins v k₂ i ≡ true
    unbeaten_wins_here i hi none = unbeaten_wins v k₂ i (λ j hj ne. ⊎_elim (other j hj ne) (last j hj ne) (below_or_not (max j i) L))
      where
        last : (j : ℕ) → j < k₂ → j ≢ i → L ≤ max j i → all j i ≤ all i j
        last j hj ne q =
            ⊎_elim (λ (l : all i j < all j i).
            absurd (omega (arith, (last_told j i hj hi ne (omega arith)).0 l, none j hj ne)))
            (λ (l : all j i ≤ all i j). l) (below_or_not (all i j) (all j i))

        other : (j : ℕ) → j < k₂ → j ≢ i → max j i < L → all j i ≤ all i j
        other j hj ne q =
            let u = last L (omega arith) (λ z. omega arith) (omega arith) in
            ⊎_elim
            (λ (l : all i j < all j i).
            let six = (by_six i j (omega arith) (omega arith) (λ z. ne (sym z)) u).0 l in
            absurd (omega (arith, (other_told j i (omega arith) (omega arith) ne).0 six, none j hj ne)))
            (λ (l : all j i ≤ all i j). l) (below_or_not (all i j) (all j i))

    -- closing byte i says whether i wins
    several_closing : (i : ℕ) → i < k₂ → W (losers_from k₂ n w + k₂ * suc r + i) ≡ cond (wins v k₂ i) 1 0
    unfolding row_gates last_gates
    several_closing i hi =
        output_law (beats_at k₂ n w) (suc r) (losers_from k₂ n w) W b v before_rows.1 before_outputs.1 i hi
        (winner i hi) (unbeaten_wins_here i hi)

-- between two candidates the strongest path is the link
one_link : (s : ℕ → ℕ → ℕ) (i j : ℕ) → i < 2 → j < 2 → i ≢ j → strongest s 2 i j ≡ s i j
one_link s i j hi hj ne =
    sym (closure_strongest s 2 i j ne) ∙ opened ∙ ⊎_elim first second (same_or_not i 0)
  where
    opened : closure 2 s i j ≡ detour 1 (detour 0 s) i j
    opened = unfold closure in refl

    row : (l i j : ℕ) → i ≡ l → (eqb i l || eqb j l || eqb i j) ≡ true
    row l i j e = or_first (eqb i l || eqb j l) (eqb i j) (or_first (eqb i l) (eqb j l) (eq-eqb i l e))

    column : (l i j : ℕ) → j ≡ l → (eqb i l || eqb j l || eqb i j) ≡ true
    column l i j e = or_first (eqb i l || eqb j l) (eqb i j) (or_second (eqb i l) (eqb j l) (eq-eqb j l e))

    first : i ≡ 0 → detour 1 (detour 0 s) i j ≡ s i j
    first e = detour_stays 1 (detour 0 s) i j (column 1 i j (omega arith)) ∙ detour_stays 0 s i j (row 0 i j e)

    second : i ≢ 0 → detour 1 (detour 0 s) i j ≡ s i j
    second e = detour_stays 1 (detour 0 s) i j (row 1 i j (omega arith)) ∙ detour_stays 0 s i j (column 0 i j (omega arith))

module _ (n w : ℕ) where
  pub pair_is : ranked_list 2 n w ≡ (paths_to 2 n w 0).gates ++ output_gates (link_wire 2 n w) 0 (pair_from n w) 2
  unfolding ranked_list
  pair_is = refl

  links_end : n * 2 * 2 + length (paths_to 2 n w 0).gates ≡ pair_from n w + 2 * 0
  unfolding pair_from
  links_end = omega arith

  pair_end : n * 2 * 2 + length (ranked_list 2 n w) ≡ pair_from n w + 2 * 0 + 2
  pair_end = omega (
    arith,
    ap length pair_is,
    length-append (paths_to 2 n w 0).gates (output_gates (link_wire 2 n w) 0 (pair_from n w) 2),
    links_end,
    outputs_length (link_wire 2 n w) 0 (pair_from n w),
  )

  pair_good : Countable n 0 w → AllGood (n * 2 * 2) (ranked_list 2 n w)
  pair_good c =
      subst (λ (gs : List Gate). AllGood (n * 2 * 2) gs) (sym pair_is)
      (good_append (n * 2 * 2) (paths_to 2 n w 0).gates (output_gates (link_wire 2 n w) 0 (pair_from n w) 2)
      (paths_good 2 n w c 0 (omega arith))
      (subst (λ (l : ℕ). AllGood l (output_gates (link_wire 2 n w) 0 (pair_from n w) 2)) (sym links_end)
      (outputs_good (link_wire 2 n w) 0 (pair_from n w) below)))
    where
      below : WiresBelow 2 (link_wire 2 n w) (pair_from n w)
      below = unfold pair_from in (link_below 2 n w 0)

  module _ (W : ℕ → ℕ) (b : Binary W) (v : ℕ → ℕ → ℕ) (countable : Countable n 0 w)
      (counted : (i j : ℕ) → i < 2 → j < 2 → i ≢ j → ones_at W (i * 2 + j) (2 * 2) n ≡ v i j)
      (h : Holds W (n * 2 * 2) (ranked_list 2 n w)) where
    pair_holds : Holds W (n * 2 * 2) (paths_to 2 n w 0).gates
        × Holds W (pair_from n w + 2 * 0) (output_gates (link_wire 2 n w) 0 (pair_from n w) 2)
    pair_holds =
        let p = holds_append W (n * 2 * 2) (paths_to 2 n w 0).gates
        (output_gates (link_wire 2 n w) 0 (pair_from n w) 2)
        (subst (λ (gs : List Gate). Holds W (n * 2 * 2) gs) pair_is h) in
        (p.0, subst (λ (l : ℕ). Holds W l (output_gates (link_wire 2 n w) 0 (pair_from n w) 2)) links_end p.1)

    no_rows : Holds W (pair_from n w) (loser_rows (link_wire 2 n w) 0 (pair_from n w) 2)
    unfolding loser_rows loser_row blocks
    no_rows = tt

    pair_closing : (i : ℕ) → i < 2 → W (pair_from n w + 2 * 0 + i) ≡ cond (wins v 2 i) 1 0
    pair_closing i hi = output_law (link_wire 2 n w) 0 (pair_from n w) W b v no_rows pair_holds.1 i hi winner loser
      where
        told : (j : ℕ) → j < 2 → j ≢ i → (v i j < v j i → W (link_wire 2 n w j i) ≡ 1) × (v j i ≤ v i j → W (link_wire 2 n w j i) ≡ 0)
        told j hj ne = links_told 2 n w W b v countable counted 0 pair_holds.0 j i hj hi ne

        winner : wins v 2 i ≡ true → (j : ℕ) → j < 2 → j ≢ i → W (link_wire 2 n w j i) ≡ 0
        winner e j hj ne =
            ⊎_elim
            (λ (l : v i j < v j i).
            let u = wins_unbeaten v 2 i e j hj ne in
            absurd (omega (
              arith,
              u,
              one_link (link v) j i hj hi ne,
              one_link (link v) i j hi hj (λ z. ne (sym z)),
              link_won v j i l,
              link_lost v i j (omega arith),
            )))
            (λ (l : v j i ≤ v i j). (told j hj ne).1 l) (below_or_not (v i j) (v j i))

        loser : ((j : ℕ) → j < 2 → j ≢ i → W (link_wire 2 n w j i) ≡ 0) → wins v 2 i ≡ true
        loser none =
            unbeaten_wins v 2 i
            (λ j hj ne.
            ⊎_elim (λ (l : v i j < v j i). absurd (omega (arith, (told j hj ne).0 l, none j hj ne)))
            (λ (l : v j i ≤ v i j). omega (arith, one_link (link v) j i hj hi ne, link_lost v j i l)) (below_or_not (v i j) (v j i)))

-- the wire at which the output gates of two or more candidates start
pub outputs_from : ℕ → ℕ → ℕ → ℕ
outputs_from zero n w = pair_from n w + 2 * 0
outputs_from (suc r) n w = losers_from (suc (suc (suc r))) n w + suc (suc (suc r)) * suc r

pub list_end : (r n w : ℕ) → n * suc (suc r) * suc (suc r) + length (ranked_list (suc (suc r)) n w) ≡ outputs_from r n w + suc (suc r)
unfolding outputs_from
list_end zero n w = pair_end n w
list_end (suc r) n w = several_end r n w

pub inputs_before : (r n w : ℕ) → n * suc (suc r) * suc (suc r) ≤ outputs_from r n w
unfolding outputs_from pair_from losers_from meetings_from duels_from
inputs_before zero n w = omega arith
inputs_before (suc r) n w = omega arith

pub circuit_good : (r n w : ℕ) → Countable n 0 w → AllGood (n * suc (suc r) * suc (suc r)) (ranked_list (suc (suc r)) n w)
circuit_good zero n w c = pair_good n w c
circuit_good (suc r) n w c = several_good r n w c

pub closing_law : (r n w : ℕ) (W : ℕ → ℕ) → Binary W → (v : ℕ → ℕ → ℕ) → Countable n 0 w
    → ((i j : ℕ) → i < suc (suc r) → j < suc (suc r) → i ≢ j → ones_at W (i * suc (suc r) + j) (suc (suc r) * suc (suc r)) n ≡ v i j)
    → Holds W (n * suc (suc r) * suc (suc r)) (ranked_list (suc (suc r)) n w) → (i : ℕ) → i < suc (suc r)
    → W (outputs_from r n w + i) ≡ cond (wins v (suc (suc r)) i) 1 0
unfolding outputs_from
closing_law zero n w W b v c counted h i hi = pair_closing n w W b v c counted h i hi
closing_law (suc r) n w W b v c counted h i hi = several_closing r n w W b v c counted h i hi

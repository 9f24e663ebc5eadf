-- The closing bytes by the gauge, place by place: 1 if the row beats every other row, else 0.
-- Assumes nothing.
use mathlib.Core.Path.{◌≡◌, ◌∙◌, refl, sym, ap}
use mathlib.Core.Bool.{Bool, true, false, cond, ◌&&◌, and-false, true≢false}
use mathlib.Core.Logic.{⊎_elim, ◌≢◌, ◌↔◌}
use mathlib.Core.List.{List, [], ◌∷◌, ◌++◌}
use Prim.Native.Nat.{ℕ, zero, suc, ◌+◌, ◌-◌, ◌≤◌, ◌<◌}
use native.Mathlib.Nat.{add-zero}
use native.Mathlib.Omega.{arith}
use lib.ListN.{length, get_or, take, drop, length-append, length-take, length-drop, get_or-append, get_or-eq_default}
use lib.Seq.{get_or-take, get_or-drop, get_or-append-add, get_or-append_seam, take-append_seam, drop-append-add, append_snoc}
use Rattle.rule_judgment.specs.Gauge.{beats, beats_all, closing_from, closing_of}
use Rattle.rule_judgment.specs.GaugeWinner.{BeatsOthers, GaugeWinner}
use Rattle.rule_judgment.specs.GaugeTheorems.{GaugeByteSays}
use Rattle.basics.proofs.Cases.{same_or_not, below_or_not}
use Rattle.basics.proofs.Flags.{and_both, never_true}
use Rattle.rule_judgment.proofs.GaugeConditions.{beats_iff, beats_one_way}

-- Whether row i beats all other rows.
unfoldable pub wins_in : List (List ℕ) → ℕ → Bool
wins_in rows i = beats_all (get_or rows i []) (take i rows ++ drop (suc i) rows)

-- a beats all of these rows if it beats each
all_beaten : (a : List ℕ) (rows : List (List ℕ)) → ((m : ℕ) → m < length rows → beats a (get_or rows m []) ≡ true) → beats_all a rows ≡ true
unfolding beats_all
all_beaten a [] h = refl
all_beaten a (b ∷ rows) h = and_both (beats a b) (beats_all a rows) (h 0 (omega arith)) (all_beaten a rows (λ m l. h (suc m) (omega arith)))

one_unbeaten : (a : List ℕ) (rows : List (List ℕ)) (m : ℕ) → m < length rows → beats a (get_or rows m []) ≡ false → beats_all a rows ≡ false
unfolding beats_all
one_unbeaten a [] m h e = absurd (omega arith)
one_unbeaten a (b ∷ rows) zero h e = ap (λ (t : Bool). t && beats_all a rows) e
one_unbeaten a (b ∷ rows) (suc m) h e = ap (λ (t : Bool). beats a b && t) (one_unbeaten a rows m (omega arith) e) ∙ and-false (beats a b)

-- the rows without row i
abbrev others : List (List ℕ) → ℕ → List (List ℕ)
others rows i = take i rows ++ drop (suc i) rows

module _ (rows : List (List ℕ)) (i : ℕ) (h : i < length rows) where
  taken_length : length (take i rows) ≡ i
  taken_length = omega (arith, length-take i rows)

  others_length : suc (length (others rows i)) ≡ length rows
  others_length = omega (arith, length-append (take i rows) (drop (suc i) rows), taken_length, length-drop (suc i) rows)

  other_before : (m : ℕ) → m < i → get_or (others rows i) m [] ≡ get_or rows m []
  other_before m l = get_or-append (take i rows) (drop (suc i) rows) [] m (omega (arith, taken_length)) ∙ get_or-take i rows m [] l

  other_after : (m : ℕ) → i ≤ m → get_or (others rows i) m [] ≡ get_or rows (suc m) []
  other_after m l =
      ap (λ (j : ℕ). get_or (others rows i) j []) {x = m} {y = length (take i rows) + (m - i)} (omega (arith, taken_length))
      ∙ get_or-append-add (take i rows) (drop (suc i) rows) (m - i) []
      ∙ get_or-drop (suc i) rows (m - i) []
      ∙ ap (λ (j : ℕ). get_or rows j []) {x = suc i + (m - i)} {y = suc m} (omega arith)

  -- row i wins if it beats every other row
  pub wins : ((j : ℕ) → j < length rows → j ≢ i → beats (get_or rows i []) (get_or rows j []) ≡ true) → wins_in rows i ≡ true
  unfolding wins_in
  wins beaten =
      all_beaten (get_or rows i []) (others rows i)
      (λ m l. ⊎_elim (λ b. ap (beats (get_or rows i [])) (other_before m b) ∙ beaten m (omega arith) (omega arith))
      (λ b. ap (beats (get_or rows i [])) (other_after m b) ∙ beaten (suc m) (omega (arith, others_length)) (omega arith)) (below_or_not m i))

  -- row i does not win if there is another row that it does not beat
  pub wins_not : (j : ℕ) → j < length rows → j ≢ i → beats (get_or rows i []) (get_or rows j []) ≡ false → wins_in rows i ≡ false
  unfolding wins_in
  wins_not j l ne e = ⊎_elim earlier later (below_or_not j i)
    where
      earlier : j < i → beats_all (get_or rows i []) (others rows i) ≡ false
      earlier b = one_unbeaten (get_or rows i []) (others rows i) j (omega (arith, others_length))
          (ap (beats (get_or rows i [])) (other_before j b) ∙ e)

      later : i ≤ j → beats_all (get_or rows i []) (others rows i) ≡ false
      later b =
          one_unbeaten (get_or rows i []) (others rows i) (j - 1) (omega (arith, others_length))
          (ap (beats (get_or rows i [])) (other_after (j - 1) (omega arith)
          ∙ ap (λ (m : ℕ). get_or rows m []) {x = suc (j - 1)} {y = j} (omega arith)) ∙ e)

-- there are as many closing bytes as rows
closing_from_length : (earlier rows : List (List ℕ)) → length (closing_from earlier rows) ≡ length rows
unfolding closing_from
closing_from_length earlier [] = refl
closing_from_length earlier (a ∷ rows) = ap suc (closing_from_length (earlier ++ (a ∷ [])) rows)

pub closing_length : (rows : List (List ℕ)) → length (closing_of rows) ≡ length rows
unfolding closing_of
closing_length rows = closing_from_length [] rows

-- the first of these rows, seen in the whole matrix: it wins if it beats the earlier and the later ones
first_wins : (earlier : List (List ℕ)) (a : List ℕ) (later : List (List ℕ)) → beats_all a (earlier ++ later)
    ≡ wins_in (earlier ++ a ∷ later) (length earlier)
unfolding wins_in
first_wins earlier a later =
    ap (λ (r : List ℕ). beats_all r (earlier ++ later)) (sym (get_or-append_seam earlier a later []))
    ∙ ap (λ (l : List (List ℕ)). beats_all (get_or rows n []) (l ++ later)) (sym (take-append_seam earlier (a ∷ later)))
    ∙ ap (λ (l : List (List ℕ)). beats_all (get_or rows n []) (take n rows ++ l))
    (sym (ap (λ (j : ℕ). drop j rows) {x = suc n} {y = n + 1} (omega arith)
    ∙ drop-append-add earlier (a ∷ later) 1))
  where
    rows : List (List ℕ)
    rows = earlier ++ a ∷ later

    n : ℕ
    n = length earlier

closing_from_at : (earlier rows : List (List ℕ)) (i : ℕ) → i < length rows → get_or (closing_from earlier rows) i 0
    ≡ cond (wins_in (earlier ++ rows) (length earlier + i)) 1 0
unfolding closing_from
closing_from_at earlier [] i h = absurd (omega arith)
closing_from_at earlier (a ∷ rows) zero h =
    ap (λ (t : Bool). cond {A = ℕ} t 1 0) (first_wins earlier a rows)
    ∙ ap (λ (n : ℕ). cond {A = ℕ} (wins_in (earlier ++ a ∷ rows) n) 1 0) (sym (add-zero (length earlier)))
closing_from_at earlier (a ∷ rows) (suc i) h =
    closing_from_at (earlier ++ (a ∷ [])) rows i (omega arith)
    ∙ ap (λ (l : List (List ℕ)). cond {A = ℕ} (wins_in l (length (earlier ++ (a ∷ [])) + i)) 1 0) (append_snoc earlier a rows)
    ∙ ap (λ (n : ℕ). cond {A = ℕ} (wins_in (earlier ++ a ∷ rows) n) 1 0) {x = length (earlier ++ (a ∷ [])) + i}
    {y = length earlier + suc i} (omega (arith, length-append earlier (a ∷ [])))

-- closing byte i is 1 if row i wins, else 0
pub closing_at : (rows : List (List ℕ)) (i : ℕ) → i < length rows → get_or (closing_of rows) i 0 ≡ cond (wins_in rows i) 1 0
unfolding closing_of
closing_at rows i h = closing_from_at [] rows i h ∙ ap (λ (n : ℕ). cond {A = ℕ} (wins_in rows n) 1 0) {x = 0 + i} {y = i} (omega arith)

module _ (rows : List (List ℕ)) (i : ℕ) (h : i < length rows) where
  winner_beats : wins_in rows i ≡ true → BeatsOthers rows i
  winner_beats e j l ne = go (beats (get_or rows i []) (get_or rows j [])) refl
    where
      go : (t : Bool) → beats (get_or rows i []) (get_or rows j []) ≡ t → beats (get_or rows i []) (get_or rows j []) ≡ true
      go true f = f
      go false f = absurd (true≢false (sym e ∙ wins_not rows i h j l ne f))

  one_wins : get_or (closing_of rows) i 0 ≡ 1 → wins_in rows i ≡ true
  one_wins e = go (wins_in rows i) refl
    where
      go : (t : Bool) → wins_in rows i ≡ t → wins_in rows i ≡ true
      go true f = f
      go false f = let z : ◌≡◌ {A = ℕ} 0 1 = sym (closing_at rows i h ∙ ap (λ (t : Bool). cond {A = ℕ} t 1 0) f) ∙ e in absurd (omega arith)

  -- a closing byte is 1 exactly if its row beats every other row
  pub closing_one : (get_or (closing_of rows) i 0 ≡ 1) ↔ BeatsOthers rows i
  closing_one =
      (λ e. winner_beats (one_wins e), λ beaten. closing_at rows i h ∙ ap (λ (t : Bool). cond {A = ℕ} t 1 0) (wins rows i h beaten))

  in_words : BeatsOthers rows i → GaugeWinner rows i
  in_words beaten j l ne = (beats_iff (get_or rows i []) (get_or rows j [])).0 (beaten j l ne)

  computed : GaugeWinner rows i → BeatsOthers rows i
  computed beaten j l ne = (beats_iff (get_or rows i []) (get_or rows j [])).1 (beaten j l ne)

  -- a closing byte is 1 exactly if its row wins in words, and 0 exactly if not
  pub byte_says : GaugeByteSays rows i
  byte_says = record {
    one = (λ e. in_words (closing_one.0 e), λ w. closing_one.1 (computed w));
    zero = (
      λ e w. let o : get_or (closing_of rows) i 0 ≡ 1 = closing_one.1 (computed w) in omega arith,
      λ never. closing_at rows i h
          ∙ ap (λ (t : Bool). cond {A = ℕ} t 1 0) (never_true (wins_in rows i) (λ e. never (in_words (winner_beats e)))),
    );
  }

-- a byte that is 1 belongs to a row
one_at_row : (rows : List (List ℕ)) (i : ℕ) → get_or (closing_of rows) i 0 ≡ 1 → i < length rows
one_at_row rows i e =
    ⊎_elim (λ l. l)
    (λ l. let z : get_or (closing_of rows) i 0 ≡ 0 =
    get_or-eq_default (closing_of rows) 0 {n = i} (omega (arith, closing_length rows)) in absurd (omega arith))
    (below_or_not i (length rows))

-- at most one closing byte is 1
pub one_winner : (rows : List (List ℕ)) (i j : ℕ) → get_or (closing_of rows) i 0 ≡ 1 → get_or (closing_of rows) j 0 ≡ 1 → i ≡ j
one_winner rows i j ei ej = ⊎_elim (λ e. e) (λ ne. absurd (both ne)) (same_or_not i j)
  where
    both : i ≢ j → ⊥
    both ne =
        let hi = one_at_row rows i ei in
        let hj = one_at_row rows j ej in
        let forth = (closing_one rows i hi).0 ei j hj (λ e. ne (sym e)) in
        let back = (closing_one rows j hj).0 ej i hi ne in
        true≢false (sym back ∙ beats_one_way (get_or rows i []) (get_or rows j []) forth)

-- a single candidate wins
pub single_wins : (a : List ℕ) → closing_of (a ∷ []) ≡ 1 ∷ []
unfolding closing_of closing_from beats_all
single_wins a = refl

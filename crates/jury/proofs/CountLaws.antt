-- The array of grade counts after the first b ballots, and the step from one ballot to the next.
-- Assumes nothing.
use mathlib.Core.Path.{◌≡◌, ◌∙◌, refl, sym, ap}
use mathlib.Core.Bool.{Bool, true, false, cond, ◌&&◌, and-false}
use mathlib.Core.Logic.{⊎_elim}
use mathlib.Core.List.{List, []}
use Prim.Native.Nat.{ℕ, zero, suc, ◌+◌, ◌*◌, ◌≤◌, ◌<◌}
use native.Mathlib.Nat.{mul_assoc, add-mul}
use native.Mathlib.Omega.{arith}
use lib.Dec.{ltb, eqb}
use lib.ListN.{get_or, take, drop, length-take, get_or-eq_default}
use lib.Seq.{get_or-take, get_or-drop}
use borrow.Author.Tests.{lt-ltb, le-ltb, eqb-true, eqb-false}
use Rattle.jury.specs.Shape.{most_candidates, most_grades}
use Rattle.jury.specs.declared.shape.Shape.{Shape}
use Rattle.jury.specs.Counts.{byte_of, count_up_to, count_of, count_array}
use Rattle.basics.specs.Lists.{tabulate}
use Rattle.jury.specs.inner.Counts.{EightBySeven, plus_row, plus_ballot}
use Rattle.basics.proofs.Cases.{below_or_not}
use Rattle.basics.proofs.Tabulate.{length_tabulate, get_d_tabulate, tabulate_cong}
use Rattle.basics.proofs.Arithmetic.{row_within}
use Rattle.basics.proofs.Flags.{bit_most}

-- a byte that is at most 1 is the 0 or 1 that it adds to a count
pub bit_added : (x : ℕ) → x ≤ 1 → cond {A = ℕ} (eqb x 1) 1 0 ≡ x
bit_added x h = go (eqb x 1) refl
  where
    go : (t : Bool) → eqb x 1 ≡ t → cond {A = ℕ} (eqb x 1) 1 0 ≡ x
    go true e = ap (λ (u : Bool). cond {A = ℕ} u 1 0) e ∙ sym (eqb-true x 1 e)
    go false e =
        let ne : ¬ (x ≡ 1) = eqb-false x 1 e in
        ap (λ (u : Bool). cond {A = ℕ} u 1 0) e ∙ omega arith

-- no count exceeds the number of ballots counted
pub count_most : (s : Shape) (xs : List ℕ) (b c g : ℕ) → count_up_to s xs b c g ≤ b
unfolding count_up_to
count_most s xs zero c g = omega arith
count_most s xs (suc b) c g = omega (arith, count_most s xs b c g, bit_most (eqb (byte_of s xs b c g) 1))

-- an entry of the array after the first b ballots
unfoldable pub entry_after : Shape → List ℕ → ℕ → ℕ → ℕ → ℕ
entry_after s xs b c g = cond (ltb c s.candidates && ltb g s.grades) (count_up_to s xs b c g) 0

unfoldable pub row_after : Shape → List ℕ → ℕ → ℕ → List ℕ
row_after s xs b c = tabulate most_grades (entry_after s xs b c)

unfoldable pub array_after : Shape → List ℕ → ℕ → List (List ℕ)
array_after s xs b = tabulate most_candidates (row_after s xs b)

module _ (s : Shape) (xs : List ℕ) where
  pub entry_inside : (b c g : ℕ) → c < s.candidates → g < s.grades → entry_after s xs b c g ≡ count_up_to s xs b c g
  unfolding entry_after
  entry_inside b c g hc hg =
      ap (λ (t : Bool). cond (t && ltb g s.grades) (count_up_to s xs b c g) 0) (lt-ltb c s.candidates hc)
      ∙ ap (λ (t : Bool). cond t (count_up_to s xs b c g) 0) (lt-ltb g s.grades hg)

  pub entry_below : (b c g : ℕ) → s.candidates ≤ c → entry_after s xs b c g ≡ 0
  unfolding entry_after
  entry_below b c g hc = ap (λ (t : Bool). cond (t && ltb g s.grades) (count_up_to s xs b c g) 0) (le-ltb c s.candidates hc)

  pub entry_beside : (b c g : ℕ) → s.grades ≤ g → entry_after s xs b c g ≡ 0
  unfolding entry_after
  entry_beside b c g hg =
      ap (λ (t : Bool). cond (ltb c s.candidates && t) (count_up_to s xs b c g) 0) (le-ltb g s.grades hg)
      ∙ ap (λ (t : Bool). cond t (count_up_to s xs b c g) 0) (and-false (ltb c s.candidates))

  -- every entry is at most the number of ballots counted
  pub entry_most : (b c g : ℕ) → entry_after s xs b c g ≤ b
  unfolding entry_after
  entry_most b c g = go (ltb c s.candidates && ltb g s.grades)
    where
      go : (t : Bool) → cond t (count_up_to s xs b c g) 0 ≤ b
      go true = count_most s xs b c g
      go false = omega arith

  -- so is every number that is read from the array
  pub read_most : (b c g : ℕ) → get_or (get_or (array_after s xs b) c []) g 0 ≤ b
  unfolding array_after row_after
  read_most b c g = ⊎_elim inside outside (below_or_not c most_candidates)
    where
      read_row : get_or (tabulate most_grades (entry_after s xs b c)) g 0 ≤ b
      read_row =
          ⊎_elim (λ l. rw (get_d_tabulate most_grades g (entry_after s xs b c) 0 l) (entry_most b c g))
          (λ l. omega (
            arith,
            get_or-eq_default (tabulate most_grades (entry_after s xs b c)) 0 {n = g}
                (omega (arith, length_tabulate most_grades (entry_after s xs b c))),
          ))
          (below_or_not g most_grades)

      inside : c < most_candidates → get_or (get_or (tabulate most_candidates (row_after s xs b)) c []) g 0 ≤ b
      inside l = rw (get_d_tabulate most_candidates c (row_after s xs b) [] l) read_row

      outside : most_candidates ≤ c → get_or (get_or (tabulate most_candidates (row_after s xs b)) c []) g 0 ≤ b
      outside l = rw (get_or-eq_default (tabulate most_candidates (row_after s xs b)) [] {n = c}
          (omega (arith, length_tabulate most_candidates (row_after s xs b)))) (omega arith)

  -- the array is eight by seven, and its counts have room for one more ballot
  pub array_eight_by_seven : (b : ℕ) → b < 256 → EightBySeven (array_after s xs b)
  unfolding array_after row_after
  array_eight_by_seven b h = record {
    rows = length_tabulate most_candidates (row_after s xs b);
    columns = λ c l. rw (get_d_tabulate most_candidates c (row_after s xs b) [] l) (length_tabulate most_grades (entry_after s xs b c));
    small = λ c g. omega (arith, read_most b c g);
  }

  -- before the first ballot all entries are 0
  pub array_start : array_after s xs 0 ≡ tabulate most_candidates (λ c. tabulate most_grades (λ g. 0))
  unfolding array_after row_after
  array_start =
      tabulate_cong most_candidates (row_after s xs 0) (λ c. tabulate most_grades (λ g. 0))
      (λ c l. tabulate_cong most_grades (entry_after s xs 0 c) (λ g. 0) (λ g m. omega (arith, entry_most 0 c g)))

  -- after the last ballot this is the array of counts
  pub array_end : array_after s xs s.ballots ≡ count_array s xs
  unfolding array_after row_after entry_after count_array count_of
  array_end = refl

  -- ballot b
  abbrev pub ballot_at : ℕ → List ℕ
  ballot_at b = take (s.candidates * s.grades) (drop (b * (s.candidates * s.grades)) xs)

  -- row c of ballot b
  abbrev pub ballot_row : ℕ → ℕ → List ℕ
  ballot_row b c = take s.grades (drop (c * s.grades) (ballot_at b))

  -- the byte of ballot b, row c and grade g lies in that ballot
  pub ballot_byte : (b c g : ℕ) → c < s.candidates → g < s.grades → get_or (ballot_at b) (c * s.grades + g) 0 ≡ byte_of s xs b c g
  unfolding byte_of
  ballot_byte b c g hc hg =
      get_or-take (k * d) (drop (b * (k * d)) xs) (c * d + g) 0 (omega (arith, row_within c k d hc))
      ∙ get_or-drop (b * (k * d)) xs (c * d + g) 0
      ∙ ap (λ (i : ℕ). get_or xs i 0) (omega (arith, mul_assoc b k d, add-mul (b * k) c d))
    where
      k : ℕ
      k = s.candidates

      d : ℕ
      d = s.grades

  -- and in row c of that ballot
  pub byte_at : (b c g : ℕ) → c < s.candidates → g < s.grades → get_or (ballot_row b c) g 0 ≡ byte_of s xs b c g
  byte_at b c g hc hg =
      get_or-take s.grades (drop (c * s.grades) (ballot_at b)) g 0 hg ∙ get_or-drop (c * s.grades) (ballot_at b) g 0
      ∙ ballot_byte b c g hc hg

  module _ (bits : (i : ℕ) → get_or xs i 0 ≤ 1) where
    -- a ballot adds its byte to the count of its candidate and grade
    pub count_step : (b c g : ℕ) → count_up_to s xs (suc b) c g ≡ count_up_to s xs b c g + byte_of s xs b c g
    unfolding count_up_to byte_of
    count_step b c g = ap (λ (x : ℕ). count_up_to s xs b c g + x)
        (bit_added (byte_of s xs b c g) (bits ((b * s.candidates + c) * s.grades + g)))

    entry_step : (b c g : ℕ) → c < s.candidates → g < most_grades → get_or (row_after s xs b c) g 0 + get_or (ballot_row b c) g 0
        ≡ entry_after s xs (suc b) c g
    unfolding row_after
    entry_step b c g hc h = ⊎_elim inside beside (below_or_not g s.grades)
      where
        inside : g < s.grades → get_or (tabulate most_grades (entry_after s xs b c)) g 0 + get_or (ballot_row b c) g 0 ≡ entry_after s xs (suc b) c g
        inside hg =
            omega (
              arith,
              get_d_tabulate most_grades g (entry_after s xs b c) 0 h,
              entry_inside b c g hc hg,
              entry_inside (suc b) c g hc hg,
              byte_at b c g hc hg,
              count_step b c g,
            )

        beside : s.grades ≤ g → get_or (tabulate most_grades (entry_after s xs b c)) g 0 + get_or (ballot_row b c) g 0 ≡ entry_after s xs (suc b) c g
        beside hg =
            omega (
              arith,
              get_d_tabulate most_grades g (entry_after s xs b c) 0 h,
              entry_beside b c g hg,
              entry_beside (suc b) c g hg,
              get_or-eq_default (ballot_row b c) 0 {n = g} (omega (arith, length-take s.grades (drop (c * s.grades) (ballot_at b)))),
            )

    row_step : (b c : ℕ) → c < s.candidates → plus_row (row_after s xs b c) (ballot_row b c) ≡ row_after s xs (suc b) c
    unfolding plus_row row_after
    row_step b c hc =
        tabulate_cong most_grades (λ g. get_or (row_after s xs b c) g 0 + get_or (ballot_row b c) g 0) (entry_after s xs (suc b) c)
        (λ g h. entry_step b c g hc h)

    row_kept : (b c : ℕ) → s.candidates ≤ c → row_after s xs b c ≡ row_after s xs (suc b) c
    unfolding row_after
    row_kept b c hc = tabulate_cong most_grades (entry_after s xs b c) (entry_after s xs (suc b) c)
        (λ g h. entry_below b c g hc ∙ sym (entry_below (suc b) c g hc))

    -- adding ballot b leads from the array after b ballots to the array after one more
    pub array_step : (b : ℕ) → plus_ballot s.candidates s.grades (array_after s xs b) (ballot_at b) ≡ array_after s xs (suc b)
    unfolding plus_ballot array_after
    array_step b =
        tabulate_cong most_candidates step (row_after s xs (suc b))
        (λ c h. ap (λ (r : List ℕ). cond (ltb c s.candidates) (plus_row r (ballot_row b c)) r)
        (get_d_tabulate most_candidates c (row_after s xs b) [] h) ∙ ⊎_elim (added c) (kept c) (below_or_not c s.candidates))
      where
        step : ℕ → List ℕ
        step c = cond (ltb c s.candidates) (plus_row (get_or (array_after s xs b) c []) (ballot_row b c)) (get_or (array_after s xs b) c [])

        added : (c : ℕ) → c < s.candidates
            → cond (ltb c s.candidates) (plus_row (row_after s xs b c) (ballot_row b c)) (row_after s xs b c)
            ≡ row_after s xs (suc b) c
        added c l = ap (λ (t : Bool). cond t (plus_row (row_after s xs b c) (ballot_row b c)) (row_after s xs b c))
            (lt-ltb c s.candidates l) ∙ row_step b c l

        kept : (c : ℕ) → s.candidates ≤ c
            → cond (ltb c s.candidates) (plus_row (row_after s xs b c) (ballot_row b c)) (row_after s xs b c)
            ≡ row_after s xs (suc b) c
        kept c l = ap (λ (t : Bool). cond t (plus_row (row_after s xs b c) (ballot_row b c)) (row_after s xs b c))
            (le-ltb c s.candidates l) ∙ row_kept b c l

-- `rule_judgment::rule::winners` meets its contract: a byte is 1 for those with the first winner's counts.
-- Assumes nothing.
use mathlib.Core.Path.{◌≡◌, ◌∙◌, sym, ap}
use mathlib.Core.Bool.{true, false}
use mathlib.Core.Logic.{⊎_elim}
use mathlib.Core.List.{List, [], ◌∷◌}
use Prim.Native.Nat.{ℕ, ◌≤◌, ◌<◌}
use native.Mathlib.Omega.{arith}
use lib.ListN.{length, get_or, take}
use lib.Seq.{length-take-le}
use Rattle.jury.specs.Shape.{most_candidates}
use Rattle.basics.specs.Lists.{tabulate, same_numbers}
use Rattle.basics.proofs.Cases.{below_or_not}
use Rattle.basics.proofs.Flags.{either}
use Rattle.basics.proofs.Tabulate.{up_to, up_to_new, up_to_old, tabulate_cong}
use Rattle.jury.specs.declared.shape.Shape.{Shape}
use Rattle.jury.specs.inner.Counts.{rows_in}
use Rattle.jury.proofs.Limits.{Within, within_T}
use Rattle.jury.proofs.Rows.{rows_length, row_at}
use Rattle.rule_judgment.specs.Judgment.{judgment_of}
use Rattle.rule_judgment.specs.inner.Decision.{byte_beside}
use Rattle.rule_judgment.specs.inner.Ready.{WinnersReady, WinningCandidate, RowsReady}
use Rattle.rule_judgment.proofs.Leading.{same_wins, other_loses, eight_judged}
use Rattle.rule_judgment.proofs.SameCounts.{beside_past, beside_same, beside_other}
use Rattle.rule_judgment.proofs.rule.winners.Goals as goal

module _ (s : Shape) (counts : List (List ℕ)) (p : WinnersReady s counts) where
  is_within : Within s
  is_within = within_T s p.within

  abbrev rows : List (List ℕ)
  rows = rows_in s.candidates s.grades counts

  size : length rows ≡ s.candidates
  size = rows_length s.candidates s.grades counts (omega (arith, p.eight, is_within.k_most))

  -- Exactly those with the first winner's counts win.
  module _ (winner : ℕ) (w : WinningCandidate counts s.candidates s.grades winner) where
    -- the row of each candidate, and that of the first winner, are in the array
    ready : (i : ℕ) → i < most_candidates → RowsReady counts i winner s.grades
    ready i h =
        let inside : winner < most_candidates = omega (arith, is_within.k_most, w.inside) in
        record {
          first_inside = h;
          second_inside = inside;
          few_grades = is_within.d_most;
          first_columns = p.columns i h;
          second_columns = p.columns winner inside;
        }

    abbrev judged : ℕ → ℕ
    judged i = get_or (judgment_of rows) i 0

    -- the closing bytes, and 0 past the last candidate
    abbrev padded : ℕ → ℕ
    padded = up_to (length rows) judged (λ j. 0)

    byte_is : (i : ℕ) → i < most_candidates → byte_beside counts s.candidates s.grades winner i ≡ padded i
    byte_is i h = ⊎_elim inside outside (below_or_not i s.candidates)
      where
        row : (j : ℕ) → j < s.candidates → get_or rows j [] ≡ take s.grades (get_or counts j [])
        row j l = row_at s.candidates s.grades counts j l

        outside : s.candidates ≤ i → byte_beside counts s.candidates s.grades winner i ≡ padded i
        outside l = beside_past counts s.candidates s.grades winner i l
            ∙ sym (up_to_old (length rows) i judged (λ j. 0) (omega (arith, size)))

        inside : i < s.candidates → byte_beside counts s.candidates s.grades winner i ≡ padded i
        inside l = either (same_numbers (take s.grades (get_or counts i [])) (take s.grades (get_or counts winner []))) same other
            ∙ sym (up_to_new (length rows) i judged (λ j. 0) (omega (arith, size)))
          where
            as_rows : same_numbers (get_or rows i []) (get_or rows winner [])
                ≡ same_numbers (take s.grades (get_or counts i [])) (take s.grades (get_or counts winner []))
            as_rows = rw (row i l, row winner w.inside)

            same : same_numbers (take s.grades (get_or counts i [])) (take s.grades (get_or counts winner [])) ≡ true
                → byte_beside counts s.candidates s.grades winner i ≡ judged i
            same e = beside_same counts s.candidates s.grades winner i l e
                ∙ sym (same_wins s.ballots rows p.gets winner (omega (arith, size, w.inside))
                w.byte i (omega (arith, size, l)) (as_rows ∙ e))

            other : same_numbers (take s.grades (get_or counts i [])) (take s.grades (get_or counts winner [])) ≡ false
                → byte_beside counts s.candidates s.grades winner i ≡ judged i
            other e = beside_other counts s.candidates s.grades winner i l e
                ∙ sym (other_loses s.ballots rows p.gets winner (omega (arith, size, w.inside))
                w.byte i (omega (arith, size, l)) (as_long ∙ sym (ap length (row winner w.inside))) (as_rows ∙ e))
              where
                as_long : length (get_or rows i []) ≡ length (take s.grades (get_or counts winner []))
                as_long =
                    let r = ready i h in
                    ap length (row i l)
                    ∙ length-take-le s.grades (get_or counts i []) (omega (arith, r.few_grades, r.first_columns))
                    ∙ sym (length-take-le s.grades (get_or counts winner []) (omega (arith, r.few_grades, r.second_columns)))

-- Eight bytes, one by one, are a table of eight.
eight_are : (g : ℕ → ℕ) {a b c d e f h i : ℕ} → a ≡ g 0 → b ≡ g 1 → c ≡ g 2 → d ≡ g 3 → e ≡ g 4 → f ≡ g 5 → h ≡ g 6 → i ≡ g 7
    → a ∷ b ∷ c ∷ d ∷ e ∷ f ∷ h ∷ i ∷ [] ≡ tabulate 8 g
unfolding tabulate
eight_are g p q r s t u v w = cc (p, q, r, s, t, u, v, w)

pub first_winner-first-requires : goal.first_winner-first-requires
first_winner-first-requires c = let w = is_within _ _ c.requires in
    record {
      eight = c.requires.eight;
      some_candidate = w.k_least;
      few_candidates = w.k_most;
      few_grades = w.d_most;
      some_ballot = w.n_least;
      few_ballots = w.n_most;
      gets = c.requires.gets;
    }

pub closing_byte-requires : goal.closing_byte-requires
closing_byte-requires c = ready _ _ c.requires _ c.first_winner-first.ensures 0 (omega arith)

pub closing_byte-requires-2 : goal.closing_byte-requires-2
closing_byte-requires-2 c = ready _ _ c.requires _ c.first_winner-first.ensures 1 (omega arith)

pub closing_byte-requires-3 : goal.closing_byte-requires-3
closing_byte-requires-3 c = ready _ _ c.requires _ c.first_winner-first.ensures 2 (omega arith)

pub closing_byte-requires-4 : goal.closing_byte-requires-4
closing_byte-requires-4 c = ready _ _ c.requires _ c.first_winner-first.ensures 3 (omega arith)

pub closing_byte-requires-5 : goal.closing_byte-requires-5
closing_byte-requires-5 c = ready _ _ c.requires _ c.first_winner-first.ensures 4 (omega arith)

pub closing_byte-requires-6 : goal.closing_byte-requires-6
closing_byte-requires-6 c = ready _ _ c.requires _ c.first_winner-first.ensures 5 (omega arith)

pub closing_byte-requires-7 : goal.closing_byte-requires-7
closing_byte-requires-7 c = ready _ _ c.requires _ c.first_winner-first.ensures 6 (omega arith)

pub closing_byte-requires-8 : goal.closing_byte-requires-8
closing_byte-requires-8 c = ready _ _ c.requires _ c.first_winner-first.ensures 7 (omega arith)

pub returns : goal.returns
returns c = let s = c.args.shape in
    let counts = c.args.counts.now in
    let winner = c.first_winner-first.result in
    let won = c.first_winner-first.ensures in
    let byte : ℕ → ℕ = byte_beside counts s.candidates s.grades winner in
    eight_are byte c.closing_byte.ensures c.closing_byte-2.ensures c.closing_byte-3.ensures
    c.closing_byte-4.ensures c.closing_byte-5.ensures c.closing_byte-6.ensures
    c.closing_byte-7.ensures c.closing_byte-8.ensures
    ∙ tabulate_cong most_candidates byte (padded s counts c.requires winner won) (byte_is s counts c.requires winner won)
    ∙ eight_judged (rows s counts c.requires)

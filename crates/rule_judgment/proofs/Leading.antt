-- The search for a candidate that no other precedes, and the closing bytes by comparing all counts with that
-- winner's.
-- Assumes nothing.
use mathlib.Core.Path.{◌≡◌, ◌∙◌, sym, subst}
use mathlib.Core.Bool.{true, false, true≢false}
use mathlib.Core.Logic.{⊎_elim}
use mathlib.Core.List.{List, []}
use Prim.Native.Nat.{ℕ, ◌+◌, ◌<◌}
use native.Mathlib.Omega.{arith}
use lib.ListN.{length, get_or, get_or-eq_default}
use lib.Seq.{ext_get_or}
use borrow.Author.Count.{below_more}
use Rattle.jury.specs.Shape.{most_candidates}
use Rattle.jury.specs.ClosingBytes.{eight_bytes}
use Rattle.basics.specs.Lists.{tabulate, same_numbers}
use Rattle.basics.proofs.Cases.{below_or_not}
use Rattle.basics.proofs.Flags.{never_true}
use Rattle.basics.proofs.Tabulate.{up_to, up_to_new, up_to_old, length_tabulate, get_d_tabulate}
use Rattle.jury.proofs.Rows.{eight_at, eight_length}
use Rattle.rule_judgment.specs.Judgment.{sequence_of, precedes, judgment_of}
use Rattle.rule_judgment.specs.Theorems.{EachGets}
use Rattle.rule_judgment.proofs.Order.{Compared, compared, precedes_self, precedes_trans}
use Rattle.rule_judgment.proofs.Order.Compared.{first, equal, second}
use Rattle.rule_judgment.proofs.Equal.{equal_sequences}
use Rattle.rule_judgment.proofs.SameCounts.{same_passes}
use Rattle.basics.proofs.Same.{same_true}
use Rattle.rule_judgment.proofs.Winners.{judgment_length, byte_one, byte_zero, one_byte}

abbrev sequence_in : List (List ℕ) → ℕ → List ℕ
sequence_in rows i = sequence_of (get_or rows i [])

-- none of the first c rows precedes row i
abbrev pub Leads : List (List ℕ) → ℕ → ℕ → Type 0
Leads rows i c = (j : ℕ) → j < c → precedes (sequence_of (get_or rows j [])) (sequence_of (get_or rows i [])) ≡ false

module _ (rows : List (List ℕ)) where
  itself : (i : ℕ) → precedes (sequence_in rows i) (sequence_in rows i) ≡ false
  itself i = never_true (precedes (sequence_in rows i) (sequence_in rows i)) (precedes_self (sequence_in rows i))

  pub leads_start : Leads rows 0 1
  leads_start = below_more _ 0 (λ j l. absurd (omega arith)) (itself 0)

  -- if row c precedes row i, row c leads the first c + 1 rows
  pub leads_next : (i c : ℕ) → Leads rows i c → precedes (sequence_in rows c) (sequence_in rows i) ≡ true → Leads rows c (c + 1)
  leads_next i c leads p =
      below_more _ c (λ j l. never_true (precedes (sequence_in rows j) (sequence_in rows c))
      (λ q. true≢false (sym (precedes_trans (sequence_in rows j) (sequence_in rows c) (sequence_in rows i) q p)
      ∙ leads j l)))
      (itself c)

  -- if row c does not precede row i, row i leads them
  pub leads_still : (i c : ℕ) → Leads rows i c → precedes (sequence_in rows c) (sequence_in rows i) ≡ false → Leads rows i (c + 1)
  leads_still i c leads p = below_more _ c leads p

-- rows of n grades each, and a winner among them: a row wins exactly if it has the winner's counts
module _ (n : ℕ) (rows : List (List ℕ)) (each : EachGets n rows) (w : ℕ) (inside : w < length rows)
    (wins : get_or (judgment_of rows) w 0 ≡ 1) where
  pub same_wins : (c : ℕ) → c < length rows → same_numbers (get_or rows c []) (get_or rows w []) ≡ true → get_or (judgment_of rows) c 0 ≡ 1
  same_wins c l e =
      byte_one rows c l
      (λ j k. subst (λ (row : List ℕ). precedes (sequence_in rows j) (sequence_of row) ≡ false)
      (sym (same_true (get_or rows c []) (get_or rows w []) e)) (one_byte rows w inside wins j k))

  pub other_loses : (c : ℕ) → c < length rows → length (get_or rows c []) ≡ length (get_or rows w [])
      → same_numbers (get_or rows c []) (get_or rows w []) ≡ false → get_or (judgment_of rows) c 0 ≡ 0
  other_loses c l size e = go (compared (sequence_in rows w) (sequence_in rows c))
    where
      go : Compared (sequence_in rows w) (sequence_in rows c) → get_or (judgment_of rows) c 0 ≡ 0
      go (first p) = byte_zero rows c l w inside p
      go (equal s) =
          let r = (equal_sequences (get_or rows w []) (get_or rows c []) (sym size) (each w inside ∙ sym (each c l))).0 s in
          absurd (true≢false (sym (same_passes (get_or rows c []) (get_or rows w []) (sym r)) ∙ e))
      go (second p) = absurd (true≢false (sym p ∙ one_byte rows w inside wins c l))

-- the eight bytes: below k the closing bytes, then 0
pub eight_judged : (rows : List (List ℕ))
    → tabulate most_candidates (up_to (length rows) (λ j. get_or (judgment_of rows) j 0) (λ j. 0)) ≡ eight_bytes (judgment_of rows)
eight_judged rows =
    ext_get_or 0 (tabulate most_candidates closing) (eight_bytes (judgment_of rows)) (length_tabulate most_candidates closing
    ∙ sym (eight_length (judgment_of rows)))
    (λ j l. at j (omega (arith, length_tabulate most_candidates closing)))
  where
    closing : ℕ → ℕ
    closing = up_to (length rows) (λ j. get_or (judgment_of rows) j 0) (λ j. 0)

    entry : (j : ℕ) → closing j ≡ get_or (judgment_of rows) j 0
    entry j =
        ⊎_elim (λ l. up_to_new (length rows) j (λ i. get_or (judgment_of rows) i 0) (λ m. 0) l)
        (λ l. up_to_old (length rows) j (λ i. get_or (judgment_of rows) i 0) (λ m. 0) l
        ∙ sym (get_or-eq_default (judgment_of rows) 0 {n = j} (omega (arith, judgment_length rows))))
        (below_or_not j (length rows))

    at : (j : ℕ) → j < most_candidates → get_or (tabulate most_candidates closing) j 0 ≡ get_or (eight_bytes (judgment_of rows)) j 0
    at j l = get_d_tabulate most_candidates j closing 0 l ∙ entry j ∙ sym (eight_at (judgment_of rows) j l)

-- The rule of a shape, for each of the two kinds: what its closing bytes are, and that they say who wins.
-- Assumes nothing.
use mathlib.Core.Path.{◌≡◌, ◌∙◌, sym, ap, subst}
use mathlib.Core.Bool.{Bool, true, false, cond, true≢false}
use mathlib.Core.Logic.{◌⊎◌, inl, inr, ⊎_elim, ◌↔◌}
use mathlib.Core.List.{List}
use Prim.Native.Nat.{ℕ, zero, suc, ◌≤◌, ◌<◌}
use native.Mathlib.Omega.{arith}
use lib.ListN.{length, get_or, get_or-eq_default}
use Rattle.jury.specs.declared.shape.Shape.{Shape}
use Rattle.jury.specs.Shape.{is_ranking}
use Rattle.jury.specs.Accepted.{AcceptedBallots}
use Rattle.jury.specs.Counts.{counts_of}
use Rattle.jury.proofs.AcceptedLaws as ballots_laws
use Rattle.jury.proofs.CountFacts.{counts_length}
use Rattle.jury.proofs.Limits.{graded_kind}
use Rattle.basics.proofs.Tabulate.{length_tabulate}
use Rattle.rule_judgment.specs.Judgment.{judgment_of}
use Rattle.rule_judgment.proofs.Winners.{judgment_length}
use Rattle.rule_judgment.proofs.Theorems.{bytes_say, each_gets}
use Rattle.rule_schulze.specs.Schulze.{wins, schulze_of}
use Rattle.rule_schulze.specs.Votes.{votes}
use Rattle.rule_schulze.proofs.Winning.{closing_at, closing_one}
use Rattle.tally.specs.Rule.{closing_for, Wins}
use Rattle.tally.specs.SaysWhoWins.{SaysWhoWins}
use Rattle.basics.proofs.Flags.{either}
use Rattle.basics.proofs.Flags.{bit_most}

-- a bit that is 1 exactly if a statement holds is 0 exactly if it does not
none_exactly : {W : Type 0} (x : ℕ) → x ≤ 1 → (x ≡ 1) ↔ W → (x ≡ 0) ↔ (¬ W)
none_exactly x h iff = (
  λ zero wins. let one = iff.1 wins in absurd (omega arith),
  λ loses. ⊎_elim (λ (l : x ≤ 0). omega arith) (λ (l : 1 ≤ x). absurd (loses (iff.0 (omega arith)))) (zero_or_more x),
)
  where
    zero_or_more : (x : ℕ) → (x ≤ 0) ⊎ (1 ≤ x)
    zero_or_more zero = inl (omega arith)
    zero_or_more (suc x) = inr (omega arith)

module _ (s : Shape) (xs : List ℕ) where
  pub closing_graded : is_ranking s ≡ false → closing_for s xs ≡ judgment_of (counts_of s xs)
  unfolding closing_for
  closing_graded e = ap (λ (t : Bool). cond t (schulze_of (votes s.candidates s.ballots xs) s.candidates)
      (judgment_of (counts_of s xs))) e

  pub closing_ranked : is_ranking s ≡ true → closing_for s xs ≡ schulze_of (votes s.candidates s.ballots xs) s.candidates
  unfolding closing_for
  closing_ranked e = ap (λ (t : Bool). cond t (schulze_of (votes s.candidates s.ballots xs) s.candidates)
      (judgment_of (counts_of s xs))) e

  -- the rule gives one byte for each candidate
  pub closing_length : length (closing_for s xs) ≡ s.candidates
  closing_length =
      either (is_ranking s) (λ e. ap length (closing_ranked e) ∙ ranked_length)
      (λ e. ap length (closing_graded e) ∙ judgment_length (counts_of s xs) ∙ counts_length s xs)
    where
      ranked_length : length (schulze_of (votes s.candidates s.ballots xs) s.candidates) ≡ s.candidates
      ranked_length = unfold schulze_of in
          (length_tabulate s.candidates
          (λ i. cond {A = ℕ} (wins (votes s.candidates s.ballots xs) s.candidates i) 1 0))

  module _ (a : AcceptedBallots s xs) where
    graded_winner : is_ranking s ≡ false → (i : ℕ) → i < s.candidates → (get_or (closing_for s xs) i 0 ≡ 1) ↔ Wins s xs i
    graded_winner e i h =
        let byte : get_or (closing_for s xs) i 0 ≡ get_or (judgment_of (counts_of s xs)) i 0 =
        ap (λ (bytes : List ℕ). get_or bytes i 0) (closing_graded e) in
        let g = ballots_laws.graded s xs a (graded_kind s a.within e) in
        let says = bytes_say s.ballots (counts_of s xs) (each_gets s xs g) i (omega (arith, counts_length s xs)) in (
          λ one. record { graded = λ f. says.one.0 (sym byte ∙ one); ranked = λ f. absurd (true≢false (sym f ∙ e)) },
          λ wins. byte ∙ says.one.1 (wins.graded e),
        )

    graded_loser : is_ranking s ≡ false → (i : ℕ) → i < s.candidates → (get_or (closing_for s xs) i 0 ≡ 0) ↔ (¬ Wins s xs i)
    graded_loser e i h =
        let byte : get_or (closing_for s xs) i 0 ≡ get_or (judgment_of (counts_of s xs)) i 0 =
        ap (λ (bytes : List ℕ). get_or bytes i 0) (closing_graded e) in
        let g = ballots_laws.graded s xs a (graded_kind s a.within e) in
        let says = bytes_say s.ballots (counts_of s xs) (each_gets s xs g) i (omega (arith, counts_length s xs)) in (
          λ zero wins. says.zero.0 (sym byte ∙ zero) (wins.graded e),
          λ loses. byte ∙ says.zero.1 (λ wins. loses (record { graded = λ f. wins; ranked = λ f. absurd (true≢false (sym f ∙ e)) })),
        )

    module _ (e : is_ranking s ≡ true) (i : ℕ) (h : i < s.candidates) where
      ranked_byte : get_or (closing_for s xs) i 0 ≡ get_or (schulze_of (votes s.candidates s.ballots xs) s.candidates) i 0
      ranked_byte = ap (λ (bytes : List ℕ). get_or bytes i 0) (closing_ranked e)

      ranked_winner : (get_or (closing_for s xs) i 0 ≡ 1) ↔ Wins s xs i
      ranked_winner =
          let says = closing_one (votes s.candidates s.ballots xs) s.candidates i h in (
            λ one. record { graded = λ f. absurd (true≢false (sym e ∙ f)); ranked = λ f. says.0 (sym ranked_byte ∙ one) },
            λ wins. ranked_byte ∙ says.1 (wins.ranked e),
          )

      ranked_loser : (get_or (closing_for s xs) i 0 ≡ 0) ↔ (¬ Wins s xs i)
      ranked_loser =
          let v = votes s.candidates s.ballots xs in
          let bit : get_or (closing_for s xs) i 0 ≤ 1 =
          subst (λ (x : ℕ). x ≤ 1) (sym (ranked_byte ∙ closing_at v s.candidates i h)) (bit_most (wins v s.candidates i)) in
          none_exactly (get_or (closing_for s xs) i 0) bit ranked_winner

    -- the rule's bytes say who wins
    pub rule_says : SaysWhoWins s xs (closing_for s xs)
    rule_says =
        record {
          winner = λ i h. either (is_ranking s) (λ e. ranked_winner e i h) (λ e. graded_winner e i h);
          loser = λ i h. either (is_ranking s) (λ e. ranked_loser e i h) (λ e. graded_loser e i h);
          past = λ i h. get_or-eq_default (closing_for s xs) 0 {n = i} (omega (arith, closing_length));
        }

-- bytes that agree with these at every place also say who wins
pub says_same : (s : Shape) (xs bytes others : List ℕ) → ((i : ℕ) → get_or others i 0 ≡ get_or bytes i 0)
    → SaysWhoWins s xs bytes → SaysWhoWins s xs others
says_same s xs bytes others same says =
    record {
      winner = λ i h. (λ one. (says.winner i h).0 (sym (same i) ∙ one), λ wins. same i ∙ (says.winner i h).1 wins);
      loser = λ i h. (λ zero. (says.loser i h).0 (sym (same i) ∙ zero), λ loses. same i ∙ (says.loser i h).1 loses);
      past = λ i h. same i ∙ says.past i h;
    }

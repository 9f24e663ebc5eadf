-- The theorems of Schulze's rule, from the laws of its paths and of its closing bytes.
-- Assumes nothing.
use mathlib.Core.Path.{◌≡◌, ◌∙◌, ap}
use mathlib.Core.Bool.{Bool, true, false, cond}
use Prim.Native.Nat.{ℕ, ◌<◌}
use native.Mathlib.Omega.{arith}
use lib.ListN.{length, get_or}
use Rattle.basics.proofs.Flags.{never_true}
use Rattle.basics.proofs.Tabulate.{length_tabulate}
use Rattle.rule_schulze.specs.Schulze.{wins, strongest, schulze_of}
use Rattle.rule_schulze.specs.Winner.{Strongest, SchulzeWinner}
use Rattle.rule_schulze.specs.Theorems.{SchulzeByteSays, SchulzeHolds}
use Rattle.rule_schulze.proofs.Paths.{via_strong, strong_via, strongest_is}
use Rattle.rule_schulze.proofs.Winning.{closing_at, closing_one, link_won, link_lost, condorcet, somebody_wins}

module _ (v : ℕ → ℕ → ℕ) (k i : ℕ) (h : i < k) where
  at : {t : Bool} → wins v k i ≡ t → get_or (schulze_of v k) i 0 ≡ cond t 1 0
  at {t} e = closing_at v k i h ∙ ap (λ (t : Bool). cond {A = ℕ} t 1 0) e

  winner : wins v k i ≡ true → SchulzeWinner v k i
  winner e = (closing_one v k i h).0 (at e)

  loser : wins v k i ≡ false → ¬ SchulzeWinner v k i
  loser e w =
      let z : get_or (schulze_of v k) i 0 ≡ 0 = at e in
      let o : get_or (schulze_of v k) i 0 ≡ 1 = (closing_one v k i h).1 w in
      omega arith

  byte : SchulzeByteSays v k i
  byte = record {
    one = closing_one v k i h;
    zero = (
      λ e w. let o : get_or (schulze_of v k) i 0 ≡ 1 = (closing_one v k i h).1 w in omega arith,
      λ never. at (never_true (wins v k i) (λ e. never (winner e))),
    );
  }

bytes : (v : ℕ → ℕ → ℕ) (k : ℕ) → length (schulze_of v k) ≡ k
unfolding schulze_of
bytes v k = length_tabulate k (λ i. cond (wins v k i) 1 0)

only_strength : (s : ℕ → ℕ → ℕ) (k i j x y : ℕ) → Strongest s k i j x → Strongest s k i j y → x ≡ y
only_strength s k i j x y a b =
    omega (
      arith,
      a.attained.2,
      b.attained.2,
      a.largest b.attained.0 b.attained.1,
      b.largest a.attained.0 a.attained.1,
    )

pub schulze_holds : SchulzeHolds
schulze_holds =
    record {
      link_won = link_won;
      link_lost = link_lost;
      weakest_link = λ s x i between j. (via_strong s x i between j, strong_via s x i between j);
      strongest_is = strongest_is;
      strongest_exists = λ s k i j ne. (strongest s k i j, strongest_is s k i j ne);
      strongest_unique = only_strength;
      bytes = bytes;
      byte = byte;
      somebody_wins = λ v k h. let c = somebody_wins v k (omega arith) in (c.0, c.1, winner v k c.0 c.1 c.2);
      condorcet = λ v k i h preferred.
          let c = condorcet v k i h preferred in
          (winner v k i h c.0, λ j l n. loser v k j l (c.1 j l n));
    }

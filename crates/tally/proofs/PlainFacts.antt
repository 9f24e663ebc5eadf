-- The eight bytes of a plain count: for accepted ballots the closing bytes of the rule, then zeros; on a refusal
-- only zeros.
-- Assumes nothing.
use mathlib.Core.Path.{◌≡◌, ◌∙◌, sym, ap}
use mathlib.Core.Logic.{⊎_elim}
use mathlib.Core.Option.{Option, none, some}
use mathlib.Core.List.{List, [], ◌++◌}
use Prim.Native.Nat.{ℕ, ◌≤◌, ◌<◌}
use native.Mathlib.Omega.{arith}
use lib.ListN.{length, get_or, take, replicate, get_or-eq_default}
use lib.Seq.{take-take, take-append-le, take_all}
use Rattle.jury.specs.Shape.{most_candidates}
use Rattle.jury.specs.declared.shape.Shape.{Shape}
use Rattle.jury.specs.Reason.{Reason}
use Rattle.jury.specs.ClosingBytes.{eight_bytes}
use Rattle.tally.specs.Rule.{closing_for}
use Rattle.tally.specs.SaysWhoWins.{SaysWhoWins}
use Rattle.tally.specs.Count.{count_reason, closing_after, plain_closing}
use Rattle.jury.specs.Accepted.{AcceptedBallots}
use Rattle.basics.proofs.Cases.{below_or_not}
use Rattle.jury.proofs.Limits.{bounds}
use Rattle.tally.proofs.CountReason.{count_accepts}
use Rattle.tally.proofs.Rules.{closing_length, rule_says, says_same}
use Rattle.jury.proofs.Rows.{eight_at, eight_length}

after_length : (r : Option Reason) (bytes : List ℕ) → length (closing_after r bytes) ≡ most_candidates
unfolding closing_after
after_length none bytes = eight_length bytes
after_length (some r) bytes = eight_length []

-- there are eight bytes, whatever the shape and the ballots are
pub plain_length : (s : Shape) (xs : List ℕ) → length (plain_closing s xs) ≡ most_candidates
unfolding plain_closing
plain_length s xs = after_length (count_reason s xs) (closing_for s xs)

module _ (s : Shape) (xs : List ℕ) (a : AcceptedBallots s xs) where
  pub plain_accepted : plain_closing s xs ≡ eight_bytes (closing_for s xs)
  unfolding plain_closing closing_after
  plain_accepted = ap (λ (o : Option Reason). closing_after o (closing_for s xs)) ((count_accepts s xs).1 a)

  bytes_length : length (closing_for s xs) ≡ s.candidates
  bytes_length = closing_length s xs

  -- the first k bytes are the closing bytes of the rule
  pub plain_first : take s.candidates (plain_closing s xs) ≡ closing_for s xs
  unfolding eight_bytes
  plain_first =
      ap (take s.candidates) plain_accepted
      ∙ take-take s.candidates most_candidates (closing_for s xs ++ replicate most_candidates 0) (bounds s a.within).k_most
      ∙ take-append-le s.candidates (closing_for s xs) (replicate most_candidates 0) (omega (arith, bytes_length))
      ∙ take_all s.candidates (closing_for s xs) (omega (arith, bytes_length))

  -- each of the eight is the rule's byte, or 0 if the rule has none at that place
  plain_byte : (i : ℕ) → get_or (plain_closing s xs) i 0 ≡ get_or (closing_for s xs) i 0
  plain_byte i = ⊎_elim inside outside (below_or_not i most_candidates)
    where
      inside : i < most_candidates → get_or (plain_closing s xs) i 0 ≡ get_or (closing_for s xs) i 0
      inside l = ap (λ (bytes : List ℕ). get_or bytes i 0) plain_accepted ∙ eight_at (closing_for s xs) i l

      outside : most_candidates ≤ i → get_or (plain_closing s xs) i 0 ≡ get_or (closing_for s xs) i 0
      outside l =
          let most = (bounds s a.within).k_most in
          get_or-eq_default (plain_closing s xs) 0 {n = i} (omega (arith, plain_length s xs))
          ∙ sym (get_or-eq_default (closing_for s xs) 0 {n = i} (omega (arith, bytes_length, most)))

  -- so they say who wins
  pub plain_says : SaysWhoWins s xs (plain_closing s xs)
  plain_says = says_same s xs (closing_for s xs) (plain_closing s xs) plain_byte (rule_says s xs a)

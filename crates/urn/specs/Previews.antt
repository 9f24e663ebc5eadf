-- What the previews reveal about an urn.
use Rattle.std.specs.Prelude.{◌≡◌, true, false, List, ℕ, length}
use Rattle.basics.specs.Lists.{member}
use Rattle.urn_chains.specs.Sound.{sound, entries_of, free_of}
use Rattle.urn.specs.Facts.{is_empty, jurors_of}
use Rattle.urn.specs.Admit.{admit_outcome}
use Rattle.urn.specs.Withdraw.{withdraw_outcome}

-- Two urns, with any bytes and lengths, that agree in four facts: both are unsound; or both are sound and have
-- equally many ballots, this juror's is in both or in neither, and both or neither have a free slot.
pub data Alike (k d : ℕ) (one other : List ℕ) (juror : ℕ) : Type 0 where
  both_unsound : sound k d one ≡ false → sound k d other ≡ false → Alike k d one other juror
  both_sound : sound k d one ≡ true → sound k d other ≡ true
      → length (entries_of k d one) ≡ length (entries_of k d other)
      → member juror (jurors_of (entries_of k d one)) ≡ member juror (jurors_of (entries_of k d other))
      → is_empty (free_of k d one) ≡ is_empty (free_of k d other) → Alike k d one other juror

-- The previews answer the same for both urns, so they reveal these four facts and nothing else. Their contracts say
-- that they answer `admit_outcome` and `withdraw_outcome`.
pub record PreviewsTell : Type 0 where
  pub admission : (k d : ℕ) (one other : List ℕ) (juror : ℕ) (ballot : List ℕ) → Alike k d one other juror
      → admit_outcome k d one juror ballot ≡ admit_outcome k d other juror ballot
  pub withdrawal : (k d : ℕ) (one other : List ℕ) (juror : ℕ) → Alike k d one other juror
      → withdraw_outcome k d one juror ≡ withdraw_outcome k d other juror

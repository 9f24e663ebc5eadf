-- The previews reveal four facts about an urn.
-- Assumes nothing.
use mathlib.Core.Path.{◌≡◌, ap}
use mathlib.Core.List.{List}
use Prim.Native.Nat.{ℕ}
use Rattle.urn.specs.Facts.{facts_of, UrnFacts}
use Rattle.urn.specs.Admit.{admit_outcome_by}
use Rattle.urn.specs.Withdraw.{withdraw_outcome_by}
use Rattle.urn.specs.Previews.{Alike, both_unsound, both_sound, PreviewsTell}

-- the facts of both urns are the same
same_facts_asked : (k d : ℕ) (one other : List ℕ) (j : ℕ) → Alike k d one other j → facts_of k d one j ≡ facts_of k d other j
unfolding facts_of
same_facts_asked k d one other j (both_unsound e f) = rw (e, f)
same_facts_asked k d one other j (both_sound e f ballots present free) = rw (e, f, ballots, present, free)

pub previews_tell : PreviewsTell
previews_tell =
    record {
      admission = λ k d one other j x t. ap (λ (f : UrnFacts). admit_outcome_by k d f j x) (same_facts_asked k d one other j t);
      withdrawal = λ k d one other j t. ap (λ (f : UrnFacts). withdraw_outcome_by k d f j) (same_facts_asked k d one other j t);
    }

-- The rows of an array of counts, and the eight bytes that are answered.
-- Assumes nothing.
use mathlib.Core.Path.{◌≡◌, ◌∙◌, sym, ap}
use mathlib.Core.Logic.{⊎_elim}
use mathlib.Core.List.{List, [], ◌++◌, map}
use Prim.Native.Nat.{ℕ, ◌+◌, ◌-◌, ◌≤◌, ◌<◌}
use native.Mathlib.Omega.{arith}
use lib.ListN.{length, get_or, take, replicate, length-take, length-map, length-append, get_or-map, get_or-append, get_or-eq_default}
use lib.Seq.{ext_get_or, get_or-take, get_or-append-add, take-nil, length-take-le}
use Rattle.jury.specs.Shape.{most_candidates}
use Rattle.jury.specs.ClosingBytes.{eight_bytes}
use Rattle.jury.specs.inner.Counts.{rows_in}
use Rattle.basics.specs.Lists.{tabulate}
use Rattle.basics.proofs.Tables.{zeros_at}
use Rattle.basics.proofs.Tabulate.{up_to, up_to_new, up_to_old, length_tabulate, get_d_tabulate}
use Rattle.basics.proofs.Cases.{below_or_not}

pub rows_length : (k d : ℕ) (counts : List (List ℕ)) → k ≤ length counts → length (rows_in k d counts) ≡ k
unfolding rows_in
rows_length k d counts h = length-map (take k counts) (take d) ∙ length-take-le k counts h

pub row_at : (k d : ℕ) (counts : List (List ℕ)) (i : ℕ) → i < k → get_or (rows_in k d counts) i [] ≡ take d (get_or counts i [])
unfolding rows_in
row_at k d counts i h =
    ap (λ (e : List ℕ). get_or (map (take d) (take k counts)) i e) (sym (take-nil d))
    ∙ get_or-map (take d) (take k counts) i []
    ∙ ap (take d) (get_or-take k counts i [] h)

-- the eight bytes are the given bytes, then 0
pub eight_at : (bytes : List ℕ) (j : ℕ) → j < most_candidates → get_or (eight_bytes bytes) j 0 ≡ get_or bytes j 0
unfolding eight_bytes
eight_at bytes j h = get_or-take most_candidates (bytes ++ replicate most_candidates 0) j 0 h ∙ ⊎_elim within past (below_or_not j (length bytes))
  where
    within : j < length bytes → get_or (bytes ++ replicate most_candidates 0) j 0 ≡ get_or bytes j 0
    within l = get_or-append bytes (replicate most_candidates 0) 0 j l

    past : length bytes ≤ j → get_or (bytes ++ replicate most_candidates 0) j 0 ≡ get_or bytes j 0
    past l =
        ap (λ (m : ℕ). get_or (bytes ++ replicate most_candidates 0) m 0) {x = j} {y = length bytes + (j - length bytes)} (omega arith)
        ∙ get_or-append-add bytes (replicate most_candidates 0) (j - length bytes) 0
        ∙ zeros_at most_candidates (j - length bytes)
        ∙ sym (get_or-eq_default bytes 0 {n = j} l)

pub eight_length : (bytes : List ℕ) → length (eight_bytes bytes) ≡ most_candidates
unfolding eight_bytes
eight_length bytes = omega (arith, length-take most_candidates (bytes ++ replicate most_candidates 0), length-append bytes (replicate most_candidates 0))

-- eight bytes: the first k are a table's, the others 0
pub eight_table : (k : ℕ) (f : ℕ → ℕ) → tabulate most_candidates (up_to k f (λ j. 0)) ≡ eight_bytes (tabulate k f)
eight_table k f =
    ext_get_or 0 (tabulate most_candidates bytes) (eight_bytes (tabulate k f)) (length_tabulate most_candidates bytes ∙ sym (eight_length (tabulate k f)))
    (λ j l. at j (omega (arith, length_tabulate most_candidates bytes)))
  where
    bytes : ℕ → ℕ
    bytes = up_to k f (λ j. 0)

    byte : (j : ℕ) → bytes j ≡ get_or (tabulate k f) j 0
    byte j =
        ⊎_elim (λ l. up_to_new k j f (λ m. 0) l ∙ sym (get_d_tabulate k j f 0 l))
        (λ l. up_to_old k j f (λ m. 0) l
        ∙ sym (get_or-eq_default (tabulate k f) 0 {n = j} (omega (arith, length_tabulate k f))))
        (below_or_not j k)

    at : (j : ℕ) → j < most_candidates → get_or (tabulate most_candidates bytes) j 0 ≡ get_or (eight_bytes (tabulate k f)) j 0
    at j l = get_d_tabulate most_candidates j bytes 0 l ∙ byte j ∙ sym (eight_at (tabulate k f) j l)

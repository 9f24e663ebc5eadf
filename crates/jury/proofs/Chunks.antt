-- The turns of a loop over the chunks of a list: turn b takes chunk b.
-- Assumes nothing.
use mathlib.Core.Path.{◌≡◌, ◌∙◌, sym, ap}
use mathlib.Core.Logic.{⊎_elim}
use mathlib.Core.List.{List, ◌++◌}
use Prim.Native.Nat.{ℕ, ◌+◌, ◌*◌, ◌≤◌, ◌<◌}
use native.Mathlib.Nat.{suc-mul, mul-le-mul_right}
use native.Mathlib.Numerals.{add-one}
use native.Mathlib.Omega.{arith}
use lib.ListN.{length, get_or, take, drop, length-drop, length-append}
use lib.Seq.{drop-drop, get_or-take, get_or-drop, take-append_seam, drop-append_seam}
use Rattle.basics.proofs.Arithmetic.{row_within}
use Rattle.basics.proofs.Cases.{below_or_not}

-- there are n chunks, and those before b are taken
pub record ChunksFrom (size n b : ℕ) (xs rest : List ℕ) : Type 0 where
  pub most : b ≤ n
  pub left : rest ≡ drop (b * size) xs

module _ {size n b : ℕ} {xs rest : List ℕ} (item after : List ℕ) (whole : length xs ≡ n * size) (some : 0 < size)
    (at : ChunksFrom size n b xs rest) (taken : rest ≡ item ++ after) (full : length item ≡ size) where
  pub chunk_below : b < n
  chunk_below = ⊎_elim (λ l. l) past (below_or_not b n)
    where
      past : n ≤ b → b < n
      past h = absurd (omega (
        arith,
        mul-le-mul_right size h,
        ap length at.left,
        length-drop (b * size) xs,
        ap length taken,
        length-append item after,
      ))

  pub chunk_is : item ≡ take size (drop (b * size) xs)
  chunk_is = sym (take-append_seam item after) ∙ ap (λ (m : ℕ). take m (item ++ after)) full ∙ ap (take size) (sym taken ∙ at.left)

  pub chunk_byte : (j : ℕ) → j < size → get_or item j 0 ≡ get_or xs (b * size + j) 0
  chunk_byte j h = ap (λ (ys : List ℕ). get_or ys j 0) chunk_is ∙ get_or-take size (drop (b * size) xs) j 0 h ∙ get_or-drop (b * size) xs j 0

  pub chunks_after : ChunksFrom size n (b + 1) xs after
  chunks_after = record {
    most = omega (arith, chunk_below);
    left = sym (drop-append_seam item after) ∙ ap (λ (m : ℕ). drop m (item ++ after)) full ∙ ap (drop size) (sym taken ∙ at.left)
        ∙ drop-drop size (b * size) xs
        ∙ ap (λ (m : ℕ). drop m xs) (omega (arith, ap (λ (m : ℕ). m * size) (add-one b), suc-mul b size));
  }

-- where no chunk is left, all were taken
pub chunks_end : {size n b : ℕ} {xs rest : List ℕ} → length xs ≡ n * size → ChunksFrom size n b xs rest → length rest < size → b ≡ n
chunks_end {size} {n} {b} {xs} {rest} whole at short = ⊎_elim more (λ (l : n ≤ b). omega (arith, at.most)) (below_or_not b n)
  where
    more : b < n → b ≡ n
    more h = absurd (omega (arith, row_within b n size h, ap length at.left, length-drop (b * size) xs))

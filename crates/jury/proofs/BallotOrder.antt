-- The order of ballots does not matter: any permutation of them has the same counts.
-- Assumes nothing.
use mathlib.Core.Path.{◌≡◌, ◌∙◌, refl, sym, ap}
use mathlib.Core.Logic.{∥∥₁_elim}
use mathlib.Core.List.{List, ◌∷◌, map, Permᴰ, Perm}
use Prim.Native.Nat.{ℕ, zero, suc, ◌+◌, ◌*◌, ◌<◌}
use native.Mathlib.Nat.{ℕ_set}
use native.Mathlib.Omega.{arith}
use lib.ListN.{get_or, take, drop}
use Rattle.jury.specs.declared.shape.Shape.{Shape}
use Rattle.jury.specs.Ballots.{rows_of, ballots_in}
use Rattle.basics.specs.Lists.{sum, tabulate}
use Rattle.jury.specs.Counts.{byte_of, count_of, counts_of}
use Rattle.jury.proofs.AcceptedLaws.{row_first, row_next}
use Rattle.basics.proofs.Tabulate.{tabulate_cong, map_tabulate}
use Rattle.jury.proofs.Sums.{addend}
use Rattle.jury.proofs.CountLaws.{ballot_byte}
use Rattle.jury.proofs.CountFacts.{column_addends}

-- a sum over a list does not depend on its order
sum_derived : (f : List ℕ → ℕ) {l m : List (List ℕ)} → Permᴰ l m → sum (map f l) ≡ sum (map f m)
unfolding sum
sum_derived f Permᴰ.nil = refl
sum_derived f (Permᴰ.cons e p) = omega (arith, ap f e, sum_derived f p)
sum_derived f (Permᴰ.swap e₁ e₂) = omega (arith, ap f e₁, ap f e₂)
sum_derived f (Permᴰ.trans p q) = sum_derived f p ∙ sum_derived f q

sum_permuted : (f : List ℕ → ℕ) (l m : List (List ℕ)) → Perm l m → sum (map f l) ≡ sum (map f m)
sum_permuted f l m p = ∥∥₁_elim p (ℕ_set (sum (map f l)) (sum (map f m))) (λ d. sum_derived f d)

-- row b begins after b rows of w bytes
rows_table : (w n : ℕ) (xs : List ℕ) → rows_of w n xs ≡ tabulate n (λ b. take w (drop (b * w) xs))
unfolding rows_of tabulate
rows_table w zero xs = refl
rows_table w (suc n) xs =
    ap (λ (r : List ℕ). take w r ∷ rows_of w n (drop w xs)) (sym (row_first w xs))
    ∙ ap (λ (l : List (List ℕ)). take w (drop (0 * w) xs) ∷ l)
    (rows_table w n (drop w xs)
    ∙ tabulate_cong n (λ b. take w (drop (b * w) (drop w xs))) (λ b. take w (drop (suc b * w) xs)) (λ b h. ap (take w) (row_next w b xs)))

-- a count is a sum over the ballots
count_ballots : (s : Shape) (xs : List ℕ) (c g : ℕ) → c < s.candidates → g < s.grades →
    count_of s xs c g ≡ sum (map (λ (ballot : List ℕ). addend (get_or ballot (c * s.grades + g) 0)) (ballots_in s xs))
unfolding count_of
count_ballots s xs c g hc hg =
    column_addends s xs s.ballots c g
    ∙ ap sum
    (tabulate_cong s.ballots (λ b. addend (byte_of s xs b c g)) (λ b. added (ballot b))
    (λ b h. ap addend (sym (ballot_byte s xs b c g hc hg)))
    ∙ sym (ap (map added) (rows_table (s.candidates * s.grades) s.ballots xs) ∙ map_tabulate added s.ballots ballot))
  where
    added : List ℕ → ℕ
    added b = addend (get_or b (c * s.grades + g) 0)

    ballot : ℕ → List ℕ
    ballot b = take (s.candidates * s.grades) (drop (b * (s.candidates * s.grades)) xs)

pub order_free : (s : Shape) (xs ys : List ℕ) → Perm (ballots_in s xs) (ballots_in s ys) → counts_of s xs ≡ counts_of s ys
unfolding counts_of
order_free s xs ys p =
    tabulate_cong s.candidates (λ c. tabulate s.grades (count_of s xs c)) (λ c. tabulate s.grades (count_of s ys c))
    (λ c hc. tabulate_cong s.grades (count_of s xs c) (count_of s ys c)
    (λ g hg.
    count_ballots s xs c g hc hg
    ∙ sum_permuted (λ (ballot : List ℕ). addend (get_or ballot (c * s.grades + g) 0)) (ballots_in s xs) (ballots_in s ys) p
    ∙ sym (count_ballots s ys c g hc hg)))

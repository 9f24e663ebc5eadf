-- Ranked ballots and their two tests (request 2.2). k is the number of candidates, and xs holds the ballots.
use Rattle.std.specs.Prelude.{Bool, cond, not, ◌&&◌, List, ℕ, zero, suc, ◌+◌, ◌*◌, eqb, get_or, Option, Some, None}
use Rattle.basics.specs.Below.{some_below}

-- The place of row i, column j of ballot b. A ranked ballot is k rows of k bytes, without gaps.
unfoldable pub rank_place : ℕ → ℕ → ℕ → ℕ → ℕ
rank_place k b i j = (b * k + i) * k + j

-- Ballot b puts i strictly before j if the byte in row i, column j is 1.
unfoldable pub before : ℕ → List ℕ → ℕ → ℕ → ℕ → Bool
before k xs b i j = eqb (get_or xs (rank_place k b i j) 0) 1

-- What the first search found, or else what the second found.
unfoldable pub or_else : Option ℕ → Option ℕ → Option ℕ
or_else (Some place) other = Some place
or_else None other = other

-- What the first successful search finds; `found i` is the result of search i, for i from 0 to m − 1.
unfoldable pub first_over : ℕ → (ℕ → Option ℕ) → Option ℕ
first_over zero found = None
first_over (suc m) found = or_else (first_over m found) (found m)

-- Reason 11 at byte (i, j): it is 1, and so is the opposite byte (j, i). So i and j are before each other or, on
-- the diagonal, where a byte is its own opposite, i is before itself.
unfoldable pub not_asymmetric_at : ℕ → List ℕ → ℕ → ℕ → ℕ → Option ℕ
not_asymmetric_at k xs b i j = cond (before k xs b i j && before k xs b j i) (Some (rank_place k b i j)) None

-- The first byte with reason 11 in row i, in ballot b, and through all n ballots.
unfoldable pub not_asymmetric_in_row : ℕ → List ℕ → ℕ → ℕ → Option ℕ
not_asymmetric_in_row k xs b i = first_over k (not_asymmetric_at k xs b i)

unfoldable pub not_asymmetric_in_ballot : ℕ → List ℕ → ℕ → Option ℕ
not_asymmetric_in_ballot k xs b = first_over k (not_asymmetric_in_row k xs b)

unfoldable pub first_not_asymmetric : ℕ → ℕ → List ℕ → Option ℕ
first_not_asymmetric k n xs = first_over n (not_asymmetric_in_ballot k xs)

-- Some candidate l is not after i and not before j.
unfoldable pub neither_after_nor_before : ℕ → List ℕ → ℕ → ℕ → ℕ → Bool
neither_after_nor_before k xs b i j = some_below k (λ l. not (before k xs b i l) && not (before k xs b l j))

-- i is before some j, and some l is not after i and not before j. This l is a third candidate, because i is before
-- j.
unfoldable pub not_weak_order_after : ℕ → List ℕ → ℕ → ℕ → Bool
not_weak_order_after k xs b i = some_below k (λ j. before k xs b i j && neither_after_nor_before k xs b i j)

-- Reason 12 applies to ballot b: such i, j and l exist.
unfoldable pub not_weak_order : ℕ → List ℕ → ℕ → Bool
not_weak_order k xs b = some_below k (not_weak_order_after k xs b)

-- The first of n ballots to which reason 12 applies.
unfoldable pub first_not_weak_order : ℕ → ℕ → List ℕ → Option ℕ
first_not_weak_order k n xs = first_over n (λ b. cond (not_weak_order k xs b) (Some b) None)

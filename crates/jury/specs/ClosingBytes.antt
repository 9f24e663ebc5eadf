-- Closing bytes in the form in which a program answers them, for either rule.
use Rattle.std.specs.Prelude.{List, ◌++◌, ℕ, take, replicate}
use Rattle.jury.specs.Shape.{most_candidates}

-- The closing bytes of up to eight candidates, padded with 0 to eight.
unfoldable pub eight_bytes : List ℕ → List ℕ
eight_bytes bytes = take most_candidates (bytes ++ replicate most_candidates 0)

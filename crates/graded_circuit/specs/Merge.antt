-- Merges two groups of candidates. Each group has the key of its best candidate and, if it has more than one, a wire
-- for each candidate that says whether it is as good as the best.
use Rattle.std.specs.Prelude.{cond, List, [], ◌∷◌, ◌++◌, ℕ, zero, suc, ◌+◌, ◌/◌, leb}
use Rattle.gates.specs.Gate.{Gate}
use Rattle.gate_words.specs.Gates.{copy_of, not_of, and_of, xor_of}
use Rattle.gate_words.specs.Choice.{choose}
use Rattle.graded_circuit.specs.declared.plan.Plan.{Plan}
use Rattle.graded_circuit.specs.Key.{key_span}
use Rattle.graded_circuit.specs.Contest.{contest, contest_span, result_at}

-- Each of the m wires from `at` on, joined with wire `stays` by "and".
unfoldable pub and_all : ℕ → ℕ → ℕ → List Gate
and_all at stays zero = []
and_all at stays (suc m) = and_of at stays ∷ and_all (at + 1) stays m

-- The wires of a group's m candidates after a merge: a candidate stays as good as the best if its wire says so and
-- wire `stays` says that the group's best still is the best. A group of one has no wires yet.
unfoldable pub keep_winners : ℕ → ℕ → ℕ → List Gate
keep_winners at stays zero = []
keep_winners at stays (suc zero) = copy_of stays ∷ []
keep_winners at stays (suc (suc m)) = and_all at stays (suc (suc m))

-- Wires q and q + 1 say whether two keys differ and, if so, whether the left one is better. The three gates: the left
-- group is better; the right one stays; the left one stays.
unfoldable pub select_flags : ℕ → List Gate
select_flags q = and_of q (q + 1) ∷ not_of (q + 2) ∷ xor_of q (q + 3) ∷ []

-- The wire that says whether the left group stays, after a contest from wire n on.
abbrev pub left_stays : Plan → ℕ → ℕ
left_stays p n = result_at p n + 4

-- The wire that says whether the right group stays.
abbrev pub right_stays : Plan → ℕ → ℕ
right_stays p n = result_at p n + 3

-- The first of the wires of both groups together, after a merge from wire n on.
abbrev pub won_at : Plan → ℕ → ℕ
won_at p n = result_at p n + 5

-- How many digits of a word are the high half, if two groups of `both` candidates together are merged. Words of two
-- single candidates come from the counters digit by digit, and are compared in one chain. A word that was chosen has
-- all its digits at once, and is compared in two halves.
unfoldable pub high_digits : Plan → ℕ → ℕ
high_digits p both = cond (leb both 2) 0 (p.digits / 2)

-- The merge of groups of l and m candidates, with keys at x and y, whose wires start at u and v.
unfoldable pub merge : Plan → ℕ → ℕ → ℕ → ℕ → ℕ → ℕ → ℕ → List Gate
merge p n x y u v l m =
    contest p n x y (high_digits p (l + m))
    ++ select_flags (result_at p n)
    ++ keep_winners u (left_stays p n) l
    ++ keep_winners v (right_stays p n) m

-- The number of gates of a merge.
abbrev pub merge_span : Plan → ℕ → ℕ → ℕ
merge_span p l m = contest_span p + 3 + l + m

-- The better of the keys at x and y, after their merge from wire n on. If they are equal, either one may be taken.
unfoldable pub better_key : Plan → ℕ → ℕ → ℕ → List Gate
better_key p n x y = choose (result_at p n + 1) x y (key_span p)

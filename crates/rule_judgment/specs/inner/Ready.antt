-- What the functions of the rule require of each other, and what they promise.
use Rattle.std.specs.Prelude.{◌≡◌, Bool, List, [], ℕ, ◌≤◌, ◌<◌, T, length, take, get_or}
use Rattle.basics.specs.Lists.{sum, same_numbers}
use Rattle.jury.specs.declared.shape.Shape.{Shape}
use Rattle.jury.specs.Shape.{graded_limits, most_candidates, most_grades, most_ballots}
use Rattle.jury.specs.inner.Counts.{rows_in}
use Rattle.rule_judgment.specs.Judgment.{judgment_of}
use Rattle.rule_judgment.specs.Theorems.{EachGets}

-- `counts` is an array of counts for the shape: each candidate was given as many grades as there are ballots.
pub record WinnersReady (s : Shape) (counts : List (List ℕ)) : Type 0 where
  pub within : T (graded_limits s)
  pub eight : length counts ≡ most_candidates
  pub gets : EachGets s.ballots (rows_in s.candidates s.grades counts)
  pub columns : (i : ℕ) → i < most_candidates → length (get_or counts i []) ≡ most_grades

-- The same for k candidates, d grades and n ballots.
pub record FirstReady (counts : List (List ℕ)) (k d n : ℕ) : Type 0 where
  pub eight : length counts ≡ most_candidates
  pub some_candidate : 0 < k
  pub few_candidates : k ≤ most_candidates
  pub few_grades : d ≤ most_grades
  pub some_ballot : 0 < n
  pub few_ballots : n ≤ most_ballots
  pub gets : EachGets n (rows_in k d counts)

-- Candidate r is one of the k candidates, and wins.
pub record WinningCandidate (counts : List (List ℕ)) (k d r : ℕ) : Type 0 where
  pub inside : r < k
  pub byte : get_or (judgment_of (rows_in k d counts)) r 0 ≡ 1

-- The rows of candidates a and b are in the array.
pub record RowsReady (counts : List (List ℕ)) (a b d : ℕ) : Type 0 where
  pub first_inside : a < most_candidates
  pub second_inside : b < most_candidates
  pub few_grades : d ≤ most_grades
  pub first_columns : length (get_or counts a []) ≡ most_grades
  pub second_columns : length (get_or counts b []) ≡ most_grades

-- r says whether the rows x and y are equal; both have d counts.
pub record Compared (x y : List ℕ) (d : ℕ) (r : Bool) : Type 0 where
  pub answer : r ≡ same_numbers x y
  pub first_length : length x ≡ d
  pub second_length : length y ≡ d

-- Candidates a and b were given n grades each.
pub record SumsReady (counts : List (List ℕ)) (a b d n : ℕ) : Type 0 where
  pub first_inside : a < most_candidates
  pub second_inside : b < most_candidates
  pub few_grades : d ≤ most_grades
  pub some_ballot : 0 < n
  pub few_ballots : n ≤ most_ballots
  pub first_sum : sum (take d (get_or counts a [])) ≡ n
  pub second_sum : sum (take d (get_or counts b [])) ≡ n

-- The numbers of an answer at the start of a lent array that has room for them.
use Rattle.std.specs.Prelude.{◌≡◌, List, ◌++◌, ℕ, drop}
use Rattle.c_answers.specs.Numbers.{status_of}

pub record Puts (needed : ℕ) (numbers before after : List ℕ) (result : ℕ) : Type 0 where
  pub returns : result ≡ status_of numbers
  pub writes : after ≡ numbers ++ drop needed before

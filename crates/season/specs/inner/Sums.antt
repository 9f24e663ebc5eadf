-- Definitions for inner functions and their proofs: no entry point's contract needs them.
use Rattle.std.specs.Prelude.{◌≡◌, List, ℕ, ◌+◌, ◌*◌, ◌<◌, ◌≤◌, ◌^◌}
use Rattle.season.specs.declared.run.Run.{Run}
use Rattle.season.specs.declared.sheet.Totals.{Totals}
use Rattle.season.specs.Season.{number_at, run_of, shared_of}

-- The numbers of a run fit into the bytes that they are read from.
pub record Small (r : Run) : Type 0 where
  pub ballots_small : r.ballots < 256
  pub gates_small : r.gates < 2 ^ 32
  pub conditional_small : r.conditional < 2 ^ 32

-- Each total is at most what n runs can add up to.
pub record SumsOf (n : ℕ) (t : Totals) : Type 0 where
  pub runs_most : t.runs ≤ n
  pub gates_most : t.gates ≤ 4294967296 * n
  pub conditional_most : t.conditional ≤ 4294967296 * n
  pub ballots_most : t.ballots ≤ 256 * n
  pub shared_most : t.shared ≤ n

-- The totals with one more run.
unfoldable pub plus_run : Totals → Run → Totals
plus_run t r = record {
  runs = t.runs + 1;
  gates = t.gates + r.gates;
  conditional = t.conditional + r.conditional;
  ballots = t.ballots + r.ballots;
  shared = t.shared + shared_of r;
}

-- r is the 32-bit number that starts at a place.
pub record NumberRead (at : ℕ) (xs : List ℕ) (r : ℕ) : Type 0 where
  pub is : r ≡ number_at at xs
  pub small : r < 2 ^ 32

-- r is the run in these bytes.
pub record RunRead (xs : List ℕ) (r : Run) : Type 0 where
  pub is : r ≡ run_of xs
  pub small : Small r

-- A run can be added to totals of at most 4,096 runs.
pub record PlusReady (t : Totals) (r : Run) : Type 0 where
  pub run : Small r
  pub sums : SumsOf 4096 t

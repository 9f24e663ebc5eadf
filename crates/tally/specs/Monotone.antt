-- The request [monotone] for runs of the own list: a better grade costs nobody the win.
use Rattle.std.specs.Prelude.{◌≡◌, ◌≢◌, List, ℕ, ◌<◌, get_or}
use Rattle.jury.specs.declared.shape.Shape.{Shape}
use Rattle.rule_judgment.specs.Raised.{Raised, RaisedOften}
use Rattle.tally.specs.Answer.{accepted, Size}
use Rattle.tally.specs.Write.{write_outcome}
use Rattle.tally.specs.Run.{run_result}
use Rattle.tally.specs.Hiding.{closing_bytes}
use Rattle.tally.specs.Demands.{list_in}

-- An accepted run, on these ballots, of the list that a write left. The tape and the old contents of wire table and
-- board are arbitrary.
pub record OwnRun (s : Shape) (table : List ℕ) (size : Size) (ballots : List ℕ) : Type 0 where
  pub tape : List ℕ
  pub wires : List ℕ
  pub board : List ℕ
  pub answer : Size
  pub accepts : (run_result s (list_in s size table) ballots tape wires board).answer ≡ accepted answer

-- Two such runs of a written list, on the ballots before and after the change.
pub record TwoRuns (s : Shape) (table : List ℕ) (size : Size) (old new : List ℕ) : Type 0 where
  pub written : write_outcome s table ≡ accepted size
  pub before : OwnRun s table size old
  pub after : OwnRun s table size new

-- A candidate's closing byte in a run.
abbrev pub byte_in : {s : Shape} {table : List ℕ} {size : Size} {ballots : List ℕ} → OwnRun s table size ballots → ℕ → ℕ
byte_in {s} {table} {size} {ballots} r c =
    get_or (closing_bytes s (run_result s (list_in s size table) ballots r.tape r.wires r.board).board) c 0

-- A candidate whose closing byte is 1 keeps it if one juror grades it better, by any number of grades, and all else
-- is equal. The same holds if several grades are raised, one after another. A sole winner stays the sole winner.
pub record MonotoneOnGates : Type 0 where
  pub raised : (s : Shape) (table : List ℕ) (size : Size) (old new : List ℕ) (r : TwoRuns s table size old new)
      → (candidate : ℕ) → Raised s candidate old new
      → byte_in r.before candidate ≡ 1 → byte_in r.after candidate ≡ 1
  pub raised_often : (s : Shape) (table : List ℕ) (size : Size) (old new : List ℕ) (r : TwoRuns s table size old new)
      → (candidate : ℕ) → RaisedOften s candidate old new
      → byte_in r.before candidate ≡ 1 → byte_in r.after candidate ≡ 1
  pub still_alone : (s : Shape) (table : List ℕ) (size : Size) (old new : List ℕ) (r : TwoRuns s table size old new)
      → (candidate : ℕ) → RaisedOften s candidate old new → byte_in r.before candidate ≡ 1
      → ((c : ℕ) → c < s.candidates → c ≢ candidate → byte_in r.before c ≡ 0)
      → (c : ℕ) → c < s.candidates → c ≢ candidate → byte_in r.after c ≡ 0

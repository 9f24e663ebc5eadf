-- What the passes over a text require after its lines are tested.
use Rattle.std.specs.Prelude.{◌≡◌, List, ℕ, ◌*◌, ◌≤◌, ◌<◌, length, None}
use Rattle.text.specs.Text.{lines_of, first_malformed}

-- The gates of a list with `inputs` inputs can be tested: every line is a gate's.
pub record ScanReady (inputs : ℕ) (text : List ℕ) : Type 0 where
  pub some : 0 < inputs
  pub few : inputs < 4294967296
  pub formed : first_malformed 0 (lines_of text) ≡ None

-- The gates' numbers can be written: every line is a gate's, and the output has room.
pub record PutReady (text output : List ℕ) : Type 0 where
  pub formed : first_malformed 0 (lines_of text) ≡ None
  pub room : 4 * length (lines_of text) ≤ length output

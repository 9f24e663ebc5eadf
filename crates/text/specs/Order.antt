-- The order of reasons in words: which reason writing and reading a text answer. Every line holds whatever the later
-- tests would find, so the order is fixed here and not only by the lists in the definitions.
use Rattle.std.specs.Prelude.{◌≡◌, true, false, List, ℕ, ◌*◌, ◌≤◌, ◌<◌, length, Some, None}
use Rattle.gates.specs.Gate.{gates_of}
use Rattle.gates.specs.Test.{first_bad, most_gates}
use Rattle.jury.specs.declared.shape.Shape.{Shape}
use Rattle.jury.specs.Shape.{within_limits, ballot_bytes}
use Rattle.jury.specs.Reason.{Reason, reason_at}
use Rattle.tally.specs.Answer.{refused, accepted, Size}
use Rattle.tally.specs.Test.{test_outcome}
use Rattle.text.specs.Text.{text_of, lines_of, first_malformed, gates_in}
use Rattle.text.specs.Write.{text_outcome}
use Rattle.text.specs.Read.{read_outcome}

-- Writing: the reasons of the test of the list come first, then 24.
pub record WriteOrder (s : Shape) (table output : List ℕ) : Type 0 where
  pub of_list : (r : Reason) → test_outcome s table ≡ refused r → text_outcome s table output ≡ refused r
  pub short : (size : Size) → test_outcome s table ≡ accepted size → length output < length (text_of (gates_of table))
      → text_outcome s table output ≡ refused (reason_at 24 0)
  pub accepts : (size : Size) → test_outcome s table ≡ accepted size
      → length (text_of (gates_of table)) ≤ length output
      → text_outcome s table output ≡ accepted (length (text_of (gates_of table)))

-- The shape is within its limits, and there are k to 1,048,576 lines.
pub record GoodLines (s : Shape) (text : List ℕ) : Type 0 where
  pub within : within_limits s ≡ true
  pub enough : s.candidates ≤ length (lines_of text)
  pub few : length (lines_of text) ≤ most_gates

-- Also every line is a gate, and no gate is bad.
pub record GoodList (s : Shape) (text : List ℕ) : Type 0 where
  pub lines : GoodLines s text
  pub well_formed : first_malformed 0 (lines_of text) ≡ None
  pub good : first_bad (ballot_bytes s) 0 (gates_in (lines_of text)) ≡ None

-- Reading: 1, 2, then 23 over all lines, 3 over all gates, and 24.
pub record ReadOrder (s : Shape) (text output : List ℕ) : Type 0 where
  pub other_shape : within_limits s ≡ false → read_outcome s text output ≡ refused (reason_at 1 0)
  pub too_few : within_limits s ≡ true → length (lines_of text) < s.candidates
      → read_outcome s text output ≡ refused (reason_at 2 0)
  pub too_many : within_limits s ≡ true → s.candidates ≤ length (lines_of text) → most_gates < length (lines_of text)
      → read_outcome s text output ≡ refused (reason_at 2 0)
  pub malformed : (i : ℕ) → GoodLines s text → first_malformed 0 (lines_of text) ≡ Some i
      → read_outcome s text output ≡ refused (reason_at 23 i)
  pub bad_gate : (g : ℕ) → GoodLines s text → first_malformed 0 (lines_of text) ≡ None
      → first_bad (ballot_bytes s) 0 (gates_in (lines_of text)) ≡ Some g
      → read_outcome s text output ≡ refused (reason_at 3 g)
  pub short : GoodList s text → length output < 4 * length (lines_of text)
      → read_outcome s text output ≡ refused (reason_at 24 0)
  pub accepts : GoodList s text → 4 * length (lines_of text) ≤ length output
      → read_outcome s text output ≡ accepted (4 * length (lines_of text))

pub record TextOrder : Type 0 where
  pub write : (s : Shape) (table output : List ℕ) → WriteOrder s table output
  pub read : (s : Shape) (text output : List ℕ) → ReadOrder s text output

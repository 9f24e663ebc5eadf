-- The entry point [trustees]: what it answers and leaves (requests 2.7 and 2.13).
use Rattle.std.proofs.Math.Option.{Option, none, some}
use Rattle.std.specs.Prelude.{List, [], ℕ, length, replicate, Result, Ok, Err}
use Rattle.gates.specs.Gate.{gates_of}
use Rattle.jury.specs.declared.reason.Refusal.{Refusal}
use Rattle.jury.specs.Reason.{Reason, reason_of, first_of}
use Rattle.basics.specs.Lists.{tabulate}
use Rattle.jury.specs.ClosingBytes.{eight_bytes}
use Rattle.tally.specs.Answer.{Outcome, refused, accepted, Size, size_of, size_in}
use Rattle.trustee_shares.specs.Shares.{opened, part, Held}
use Rattle.trustee_shares.specs.Views.{joined, closing_parts}
use Rattle.trustees.specs.Call.{Call, wire_parts_in, published_in}
use Rattle.trustees.specs.Reasons.{trustees_reasons}
use Rattle.trustees.specs.declared.run.Tallied.{Tallied}

-- The sums of the published closing bits, as eight bytes; `parts p` are trustee p's parts of all wires.
unfoldable pub closing_sums : ℕ → ℕ → Held → List ℕ
closing_sums t k parts = eight_bytes (tabulate k (λ j. opened t (λ p. part (closing_parts k (parts p)) j)))

-- What a call leaves: its answer, the sums, the wire parts and what is published.
pub record TrusteesResult : Type 0 where
  pub answer : Outcome Size
  pub closing : List ℕ
  pub wire_parts : List ℕ
  pub published : List ℕ

-- A refusal changes nothing, and its sums are zeros. An accepted call leaves zeros in the wire parts, and in the
-- other table all that the trustees publish.
unfoldable pub trustees_result_after : Option Reason → Call → TrusteesResult
trustees_result_after (some r) c =
    record {
      answer = refused r;
      closing = eight_bytes [];
      wire_parts = c.lent.wire_parts;
      published = c.lent.published;
    }
trustees_result_after none c =
    record {
      answer = accepted (size_of (gates_of c.table));
      closing = closing_sums c.trustees c.shape.candidates (wire_parts_in c);
      wire_parts = replicate (length c.lent.wire_parts) 0;
      published = joined c.trustees (published_in c);
    }

-- What a call leaves: the contract of `run` is an equation with this.
unfoldable pub trustees_result : Call → TrusteesResult
trustees_result c = trustees_result_after (first_of (trustees_reasons c)) c

-- The answer that the program's result of a call means.
unfoldable pub tallied_outcome : Result Tallied Refusal → Outcome Size
tallied_outcome (Ok t) = accepted (size_in t.size)
tallied_outcome (Err r) = refused (reason_of r)

-- The sums that it means: zeros on a refusal.
unfoldable pub tallied_closing : Result Tallied Refusal → List ℕ
tallied_closing (Ok t) = t.closing
tallied_closing (Err r) = eight_bytes []

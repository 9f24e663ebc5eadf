-- The demands hold for the trustees' call.
-- Assumes nothing.
use mathlib.Core.Path.{◌≡◌, ◌∙◌, refl, sym, ap}
use mathlib.Core.Option.{Option, none, some}
use mathlib.Core.List.{List, ◌++◌}
use Prim.Native.Nat.{ℕ, ◌+◌, ◌*◌}
use lib.Dec.{T}
use lib.ListN.{length, replicate, length-replicate}
use Rattle.jury.specs.Shape.{most_candidates}
use Rattle.basics.specs.Lists.{all, member}
use Rattle.gates.specs.Gate.{gates_of}
use Rattle.jury.specs.Reason.{Reason, reason_at, first_of}
use Rattle.jury.specs.Ballots.{ballot_reasons}
use Rattle.jury.specs.ClosingBytes.{eight_bytes}
use Rattle.tally.specs.Answer.{refused, accepted, has_number_in, Size, size_of}
use Rattle.tally.specs.Test.{test_reasons}
use Rattle.tally.specs.Memory.{Each}
use Rattle.tally.proofs.TestReasons.{never}
use Rattle.tally.proofs.Numbering.{All, first_number, both, unless_fine, wider, list_and_ballots_all}
use Rattle.tally.proofs.Writing as writing
use Rattle.trustee_shares.proofs.Tables.{length_joined}
use Rattle.trustees.specs.Call.{PartTables, Call, published_in}
use Rattle.trustees.specs.Reasons.{part_reasons, part_reason_numbers, trustees_reasons, trustees_reason_numbers}
use Rattle.trustees.specs.Result.{TrusteesResult, trustees_result_after, trustees_result}
use Rattle.trustees.specs.Demands.{TrusteesMemory, TrusteesHold}
use Rattle.trustees.proofs.Reasons.{call_passed, result_by}
use Rattle.trustees.proofs.Sums.{call_ready, published_long}
use Rattle.trustees.proofs.Accuracy.{call_accepted, accuracy, own_list}
use Rattle.trustees.proofs.Hiding.{views_tell_no_more}

parts_all : (k : ℕ) (size : Size) (ballots : List ℕ) (t : ℕ) (lent : PartTables) → All part_reason_numbers (part_reasons k size ballots t lent)
unfolding All part_reasons member reason_at
parts_all k size ballots t lent =
    let ns = part_reason_numbers in
    (unless_fine ns _ 16 tt, (unless_fine ns _ 17 tt, (unless_fine ns _ 18 tt, tt)))

module _ (c : Call) where
  all_fine : All trustees_reason_numbers (trustees_reasons c)
  unfolding trustees_reasons all member reason_at
  all_fine =
      let ns = trustees_reason_numbers in
      let test = test_reasons c.shape c.table in
      let ballots = ballot_reasons c.shape c.ballots in
      let size = size_of (gates_of c.table) in
      let parts = part_reasons c.shape.candidates size c.ballots c.trustees c.lent in
      both ns (test ++ ballots) parts
      (list_and_ballots_all ns tt tt c.shape c.table c.ballots)
      (wider part_reason_numbers ns tt parts (parts_all c.shape.candidates size c.ballots c.trustees c.lent))

  whole : trustees_result c ≡ trustees_result_after (first_of (trustees_reasons c)) c
  whole = result_by c (first_of (trustees_reasons c)) refl

  after_refusal : (o : Option Reason) (r : Reason) → (trustees_result_after o c).answer ≡ refused r
      → (o ≡ some r) × ((trustees_result_after o c).wire_parts ≡ c.lent.wire_parts)
      × ((trustees_result_after o c).published ≡ c.lent.published)
      × ((trustees_result_after o c).closing ≡ replicate most_candidates 0)
  unfolding trustees_result_after eight_bytes
  after_refusal none r e = never (size_of (gates_of c.table)) r (sym e)
  after_refusal (some q) r e = let same : q ≡ r = cc in (ap some same, refl, refl, refl)

  refusal : (r : Reason) → (trustees_result c).answer ≡ refused r
      → (first_of (trustees_reasons c) ≡ some r) × ((trustees_result c).wire_parts ≡ c.lent.wire_parts)
      × ((trustees_result c).published ≡ c.lent.published)
      × ((trustees_result c).closing ≡ replicate most_candidates 0)
  refusal r e =
      let o = first_of (trustees_reasons c) in
      let q = after_refusal o r (sym (ap (λ (z : TrusteesResult). z.answer) whole) ∙ e) in (
        q.0,
        ap (λ (z : TrusteesResult). z.wire_parts) whole ∙ q.1,
        ap (λ (z : TrusteesResult). z.published) whole ∙ q.2,
        ap (λ (z : TrusteesResult). z.closing) whole ∙ q.3,
      )

  pub number : (r : Reason) → (trustees_result c).answer ≡ refused r → T (has_number_in trustees_reason_numbers r)
  number r e = first_number trustees_reason_numbers (trustees_reasons c) all_fine r (refusal r e).0

  empties : (size : Size) → (trustees_result c).answer ≡ accepted size → (trustees_result c).wire_parts
      ≡ replicate (length c.lent.wire_parts) 0
  unfolding trustees_result_after
  empties size e =
      ap (λ (z : TrusteesResult). z.wire_parts) (result_by c none (call_accepted c size e).0)

  -- no call changes a length
  lengths : (o : Option Reason) → first_of (trustees_reasons c) ≡ o
      → (length (trustees_result c).wire_parts ≡ length c.lent.wire_parts)
      × (length (trustees_result c).published ≡ length c.lent.published)
  unfolding trustees_result_after
  lengths (some r) e =
      let f = result_by c (some r) e in
      (ap (λ (z : TrusteesResult). length z.wire_parts) f, ap (λ (z : TrusteesResult). length z.published) f)
  lengths none e =
      let f = result_by c none e in
      let p = call_passed c e in
      let size = size_of (gates_of c.table) in
      let r = call_ready c size refl p in (
        ap (λ (z : TrusteesResult). length z.wire_parts) f ∙ length-replicate (length c.lent.wire_parts) 0,
        ap (λ (z : TrusteesResult). length z.published) f
            ∙ length_joined (2 * size.conditional + c.shape.candidates) (published_in c) c.trustees (published_long c size r)
            ∙ sym r.published_length,
      )

memory : (c : Call) → TrusteesMemory c
unfolding Each
memory c =
    let long = lengths c (first_of (trustees_reasons c)) refl in
    record {
      keeps = record {
        number = number c;
        refusal = λ r e. let q = refusal c r e in (q.1, (q.2, tt));
        empties = λ size e. (empties c size e, tt);
        lengths = (long.0, (long.1, tt));
      };
      zeros = λ r e. (refusal c r e).3;
    }

pub trustees_hold : TrusteesHold
trustees_hold =
    record {
      memory = memory;
      tallies = record {
        accuracy = accuracy;
        own_list = λ c table size answer e own a.
            own_list c table size (writing.write_passed c.shape table size e) own (call_passed c (call_accepted c answer a).0);
        hiding = views_tell_no_more;
      };
    }

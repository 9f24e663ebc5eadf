-- The views of accepted calls reveal only the closing bytes.
-- Assumes nothing.
use mathlib.Core.Path.{◌≡◌, ◌∙◌, refl, sym, ap, subst}
use mathlib.Core.Option.{none}
use mathlib.Core.List.{List}
use Prim.Native.Nat.{ℕ, ◌≤◌}
use native.Mathlib.Omega.{arith}
use lib.ListN.{length, get_or}
use lib.Seq.{ext_get_or}
use Rattle.jury.specs.Shape.{most_candidates}
use Rattle.gates.specs.Gate.{gates_of}
use Rattle.gates.specs.Wires.{wires_of, outputs_of}
use Rattle.jury.specs.ClosingBytes.{eight_bytes}
use Rattle.jury.proofs.Rows.{eight_at}
use Rattle.tally.specs.Answer.{accepted, Size, size_of}
use Rattle.trustee_shares.specs.Views.{Dealing, GoodDealing, view_of}
use Rattle.trustee_shares.proofs.Hiding.{views_hide_inputs}
use Rattle.trustees.specs.Call.{PartTables, Call, dealt_as, view_in}
use Rattle.trustees.specs.Result.{TrusteesResult, trustees_result_after, trustees_result}
use Rattle.trustees.specs.Demands.{Accepted, in_one_call, ViewsHide, ViewsTellNoMore}
use Rattle.trustees.proofs.Reasons.{CallPassed, call_passed, call_passed_back, result_by, passed_dealing, other_dealing}
use Rattle.trustees.proofs.Sums.{Ready, call_ready}
use Rattle.trustees.proofs.Accuracy.{call_accepted, outputs_long, closing_is}

-- k bytes can be read from the eight to which they are padded
eight_same : (k : ℕ) (xs ys : List ℕ) → k ≤ most_candidates → length xs ≡ k → length ys ≡ k → eight_bytes xs ≡ eight_bytes ys → xs ≡ ys
eight_same k xs ys h lx ly e =
    ext_get_or 0 xs ys (lx ∙ sym ly)
    (λ (i : ℕ) l. sym (eight_at xs i (omega arith)) ∙ ap (λ (bytes : List ℕ). get_or bytes i 0) e ∙ eight_at ys i (omega arith))

ready_list : (c : Call) → CallPassed c → Ready c (size_of (gates_of c.table))
ready_list c p = call_ready c (size_of (gates_of c.table)) refl p

-- if a call accepts one dealing, it accepts exactly the good ones
accepts : (c : Call) → CallPassed c → (e : Dealing) → GoodDealing c.trustees (gates_of c.table) c.ballots e
    → Accepted (dealt_as c e)
unfolding trustees_result_after
accepts c p e g =
    let q : CallPassed (dealt_as c e) =
    record { test = p.test; ballots_passed = p.ballots_passed; parts = other_dealing c p e g } in
    ap (λ (r : TrusteesResult). r.answer) (result_by (dealt_as c e) none (call_passed_back (dealt_as c e) q))

passes : (c : Call) → Accepted c → CallPassed c
passes c a = call_passed c (call_accepted c (size_of (gates_of c.table)) a).0

sees : (q : ℕ) (c : Call) → CallPassed c → (view_in q c).published ≡ (trustees_result c).published
unfolding view_of trustees_result_after
sees q c p = sym (ap (λ (r : TrusteesResult). r.published) (result_by c none (call_passed_back c p)))

-- a call with the same shape, list and number of trustees
abbrev alike : Call → (ballots : List ℕ) → PartTables → Call
alike c ballots lent =
    record { shape = c.shape; table = c.table; ballots = ballots; trustees = c.trustees; lent = lent }

module _ (c : Call) (ballots : List ℕ) (lent : PartTables) (first second : Size)
    (a : (trustees_result c).answer ≡ accepted first) (b : (trustees_result (alike c ballots lent)).answer ≡ accepted second)
    (closing : (trustees_result c).closing ≡ (trustees_result (alike c ballots lent)).closing) where
  abbrev other : Call
  other = alike c ballots lent

  p₀ : CallPassed c
  p₀ = call_passed c (call_accepted c first a).0

  q₀ : CallPassed other
  q₀ = call_passed other (call_accepted other second b).0

  same_outputs : outputs_of c.shape.candidates (wires_of c.ballots (gates_of c.table))
      ≡ outputs_of c.shape.candidates (wires_of ballots (gates_of c.table))
  same_outputs =
      let k = c.shape.candidates in
      let gs = gates_of c.table in
      eight_same k (outputs_of k (wires_of c.ballots gs)) (outputs_of k (wires_of ballots gs)) (ready_list c p₀).k_most
      (outputs_long c p₀) (outputs_long other q₀) (sym (closing_is c p₀) ∙ closing ∙ closing_is other q₀)

  hidden : ViewsHide in_one_call c other
  hidden =
      let gs = gates_of c.table in
      let r = ready_list c p₀ in
      record {
        same_view = λ (q : ℕ) h d accept.
            let p = passes (dealt_as c d) accept in
            let one = views_hide_inputs c.trustees q c.shape.candidates gs c.ballots ballots d h
            r.evaluate.enough (p₀.ballots_passed.size ∙ sym q₀.ballots_passed.size) p₀.ballots_passed.bits
            q₀.ballots_passed.bits r.evaluate.good same_outputs (passed_dealing (dealt_as c d) p) in (
              one.0,
              (accepts other q₀ one.0 one.1.0, one.1.1),
              λ (e : Dealing) f. one.2 e (passed_dealing (dealt_as other e) (passes (dealt_as other e) f.0), f.1),
            );
        sees_the_table = λ (q : ℕ) d accept. sees q (dealt_as c d) (passes (dealt_as c d) accept);
      }

pub views_tell_no_more : ViewsTellNoMore in_one_call
views_tell_no_more c c' first second shape table trustees a b closing =
    let same : alike c c'.ballots c'.lent ≡ c' = rw (shape, table, trustees) refl in
    subst (λ (e : Call). ViewsHide in_one_call c e) same
    (hidden c c'.ballots c'.lent first second a
    (ap (λ (e : Call). (trustees_result e).answer) same ∙ b) (closing ∙ sym (ap (λ (e : Call). (trustees_result e).closing) same)))

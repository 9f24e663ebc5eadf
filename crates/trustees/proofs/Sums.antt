-- The opened closing bits, and that an accepted call has what the evaluation requires.
-- Assumes nothing.
use mathlib.Core.Path.{◌≡◌, ◌∙◌, refl, sym, ap}
use mathlib.Core.List.{List, ◌++◌}
use Prim.Native.Nat.{ℕ, ◌+◌, ◌-◌, ◌*◌, ◌≤◌, ◌<◌}
use native.Mathlib.Omega.{arith}
use lib.ListN.{length, get_or, length-append, length-drop}
use lib.Seq.{get_or-append-add}
use Rattle.gates.specs.Gate.{gates_of}
use Rattle.gates.specs.Board.{conditional_count}
use Rattle.gates.specs.Test.{first_bad}
use Rattle.gates.proofs.Counting.{count_most}
use Rattle.gates.proofs.Evaluating.{accepted_list}
use Rattle.jury.specs.Shape.{most_candidates, ballot_bytes}
use Rattle.basics.specs.Lists.{tabulate}
use Rattle.jury.specs.ClosingBytes.{eight_bytes}
use Rattle.jury.proofs.Limits.{some_bytes, bounds, inputs_bound}
use Rattle.basics.proofs.Tabulate.{tabulate_cong}
use Rattle.tally.specs.Answer.{Size, size_of}
use Rattle.trustee_shares.specs.Shares.{opened, part, Held}
use Rattle.trustee_shares.specs.Views.{piece, joined, ballots_of, triples_of, wire_parts_of, masked_factors, closing_parts, published_of}
use Rattle.trustee_shares.proofs.Accuracy.{opened_same}
use Rattle.trustee_shares.proofs.Tables.{length_piece, piece_joined}
use Rattle.trustee_shares.proofs.Publishing.{length_masked}
use Rattle.trustee_gates.specs.inner.Evaluate.{EvaluateReady}
use Rattle.trustee_gates.proofs.Running.{length_parts}
use Rattle.trustees.specs.Call.{Call, wire_parts_in, published_in}
use Rattle.trustees.specs.Result.{closing_sums}
use Rattle.trustees.proofs.Reasons.{CallPassed}

-- facts about an accepted call
pub record Ready (c : Call) (size : Size) : Type 0 where
  pub small : (size.conditional ≤ 1048576) × (c.shape.candidates ≤ most_candidates)
  pub k_most : c.shape.candidates ≤ most_candidates
  pub published_length : length c.lent.published ≡ c.trustees * (2 * size.conditional + c.shape.candidates)
  pub evaluate : EvaluateReady c.trustees (length c.ballots) c.table size.conditional c.shape.candidates
      c.lent.dealing.ballot_parts c.lent.dealing.dealer_parts c.lent.wire_parts c.lent.published

module _ (c : Call) where
  ready_own : CallPassed c → Ready c (size_of (gates_of c.table))
  unfolding size_of
  ready_own p =
      let f = accepted_list (ballot_bytes c.shape) c.shape.candidates c.table (length (gates_of c.table))
      (conditional_count (gates_of c.table)) p.test.tests in
      let w = bounds c.shape p.test.within in
      let n = p.ballots_passed.size in
      let l = p.parts.tables in
      record {
        small = (omega (arith, f.few, count_most (gates_of c.table)), w.k_most);
        k_most = w.k_most;
        published_length = l.published_length;
        evaluate = record {
          some_input = omega (arith, some_bytes c.shape p.test.within);
          few = omega (arith, f.few, inputs_bound c.shape w);
          good = ap (λ (i : ℕ). first_bad i 0 (gates_of c.table)) n ∙ f.good;
          enough = f.enough;
          conditional_is = refl;
          ballot_length = l.ballot_length;
          triples_length = l.dealer_length;
          wires_length = l.wires_length;
          published_length = l.published_length;
        };
      }

  pub call_ready : (size : Size) → size ≡ size_of (gates_of c.table) → CallPassed c → Ready c size
  call_ready size e p = rw e (ready_own p)

  -- the closing bits come after the factors in each trustee's piece
  module _ (size : Size) (r : Ready c size) where
    parts : Held
    parts = wire_parts_in c

    parts_long : (p : ℕ) → p < c.trustees → length (parts p) ≡ length c.ballots + length (gates_of c.table)
    unfolding parts wire_parts_of ballots_of
    parts_long p h =
        length_parts c.trustees (triples_of (gates_of c.table) c.lent.dealing) (gates_of c.table)
        (piece (length c.ballots) c.lent.dealing.ballot_parts) 0 (length c.ballots) p
        (length_piece c.trustees (length c.ballots) c.lent.dealing.ballot_parts p
        r.evaluate.ballot_length h)

    closing_long : (p : ℕ) → p < c.trustees → length (closing_parts c.shape.candidates (parts p)) ≡ c.shape.candidates
    unfolding closing_parts
    closing_long p h = omega (arith, length-drop (length (parts p) - c.shape.candidates) (parts p), parts_long p h, r.evaluate.enough)

    factors_long : (p : ℕ) → length
        (masked_factors (parts p) (triples_of (gates_of c.table) c.lent.dealing p) 0 (gates_of c.table)) ≡ 2
        * size.conditional
    factors_long p = omega (
      arith,
      length_masked (parts p) (triples_of (gates_of c.table) c.lent.dealing p) 0 (gates_of c.table),
      r.evaluate.conditional_is,
    )

    pub published_long : (p : ℕ) → p < c.trustees → length (published_in c p) ≡ 2 * size.conditional + c.shape.candidates
    unfolding published_of parts
    published_long p h =
        omega (
          arith,
          length-append (masked_factors (parts p) (triples_of (gates_of c.table) c.lent.dealing p) 0
              (gates_of c.table)) (closing_parts c.shape.candidates (parts p)),
          factors_long p,
          closing_long p h,
        )

    pub opened_closing : (after : List ℕ) → after ≡ joined c.trustees (published_in c)
        → eight_bytes (tabulate c.shape.candidates
        (λ j. opened c.trustees (λ p. part (piece (2 * size.conditional + c.shape.candidates) after p)
        (2 * size.conditional + j))))
        ≡ closing_sums c.trustees c.shape.candidates (wire_parts_in c)
    unfolding closing_sums parts
    opened_closing after e =
        let k = c.shape.candidates in
        let m = 2 * size.conditional in
        ap eight_bytes (tabulate_cong k (λ j. opened c.trustees (λ p. part (piece (m + k) after p) (m + j)))
        (λ j. opened c.trustees (λ p. part (closing_parts k (parts p)) j))
        (λ j l. opened_same c.trustees (λ p. part (piece (m + k) after p) (m + j)) (λ p. part (closing_parts k (parts p)) j)
        (λ (p : ℕ) h.
        ap (λ (xs : List ℕ). part (piece (m + k) xs p) (m + j)) e
        ∙ ap (λ (xs : List ℕ). part xs (m + j)) (piece_joined (m + k) (published_in c) c.trustees published_long p h) ∙ behind p j)))
      where
        behind : (p j : ℕ) → part (published_in c p) (2 * size.conditional + j) ≡ part (closing_parts c.shape.candidates (parts p)) j
        behind p j =
            unfold published_of part parts in
            (ap (λ (n : ℕ). get_or (masked_factors (parts p) (triples_of (gates_of c.table) c.lent.dealing p) 0
            (gates_of c.table) ++ closing_parts c.shape.candidates (parts p)) (n + j) 0) (sym (factors_long p))
            ∙ get_or-append-add (masked_factors (parts p) (triples_of (gates_of c.table) c.lent.dealing p) 0
            (gates_of c.table)) (closing_parts c.shape.candidates (parts p)) j 0)

-- The calls of trustees apart, in an election that the single call accepts: each is accepted, and leaves what
-- `holdings_after` says.
-- Assumes nothing.
use mathlib.Core.Path.{◌≡◌, ◌∙◌, refl, sym, ap}
use mathlib.Core.Bool.{true}
use mathlib.Core.Option.{none}
use mathlib.Core.List.{List, []}
use Prim.Native.Nat.{ℕ, zero, suc, ◌+◌, ◌*◌, ◌≤◌, ◌<◌}
use native.Mathlib.Omega.{arith}
use lib.ListN.{length, replicate, length-append, length-replicate}
use borrow.Author.Tests.{eq-eqb, le-leb, lt-ltb}
use Rattle.gates.specs.Gate.{gates_of}
use Rattle.gates.specs.Board.{conditional_count, Bits}
use Rattle.gate_levels.specs.Levels.{levels_of, rounds_of}
use Rattle.jury.specs.Shape.{ballot_bytes}
use Rattle.jury.specs.Reason.{first_of}
use Rattle.tally.specs.Answer.{size_of}
use Rattle.tally.specs.Test.{test_reasons}
use Rattle.levels.specs.Answer.{depths_of}
use Rattle.trustee_shares.specs.Shares.{part, Held}
use Rattle.trustee_shares.specs.Views.{piece, ballots_of, triples_of, GoodDealing}
use Rattle.trustee_shares.proofs.Tables.{length_piece}
use Rattle.trustee_shares.proofs.Hiding.{bits_piece}
use Rattle.trustee_gates.specs.Dealing.{only_bits}
use Rattle.trustee_gates.proofs.Parity.{opened_bit}
use Rattle.trustee_gates.proofs.Dealt.{only_bits_back}
use Rattle.trustee_rounds.specs.Rounds.{enters, publishes, start_wires, start_published}
use Rattle.trustee_rounds.specs.Together.{sums_from, sums_of, turn_of, parts_after, published_after, holdings_after}
use Rattle.trustee_rounds.proofs.Publishing.{length_sums}
use Rattle.trustee_rounds.proofs.Closing.{length_enters, length_publishes}
use Rattle.trustees.specs.Call.{Call}
use Rattle.trustees.proofs.Reasons.{CallPassed, passed_dealing}
use Rattle.trustee_alone.specs.Own.{is_trustee, own_tables_fit}
use Rattle.trustee_alone.specs.Start.{own_reasons, start_reasons, start_outcome, started_wires, started_published}
use Rattle.trustee_alone.specs.Rounds.{table_reasons, round_reasons, round_outcome, own_turn, wires_made, published_made, rounded_wires, rounded_published}
use Rattle.trustee_alone.specs.Demands.{heard_before, CallsOf}
use Rattle.trustee_alone.proofs.Memory.{length_closes}
use Rattle.basics.proofs.Same.{same_refl}
use Rattle.trustee_alone.proofs.Tests.{pass, end, behind, and_both, outcome_none, left_new}

sums_bits : (t n j : ℕ) (published : Held) → Bits (sums_from t n j published)
unfolding sums_from
sums_bits t zero j published i = omega arith
sums_bits t (suc n) j published zero = opened_bit t (λ p. part (published p) j)
sums_bits t (suc n) j published (suc i) = sums_bits t n (suc j) published i

module _ (c : Call) (passed : CallPassed c) (p : ℕ) (l : p < c.trustees) where
  good : GoodDealing c.trustees (gates_of c.table) c.ballots c.lent.dealing
  good = passed_dealing c passed

  trustee : is_trustee c.trustees p ≡ true
  unfolding is_trustee
  trustee = rw (le-leb 2 c.trustees passed.parts.least, le-leb c.trustees 5 passed.parts.most, lt-ltb p c.trustees l)

  parts_long : length (ballots_of (ballot_bytes c.shape) c.lent.dealing p) ≡ ballot_bytes c.shape
  unfolding ballots_of
  parts_long = length_piece c.trustees (ballot_bytes c.shape) c.lent.dealing.ballot_parts p
      (good.ballot_size ∙ ap (λ (n : ℕ). c.trustees * n) passed.ballots_passed.size) l

  triples_long : length (triples_of (gates_of c.table) c.lent.dealing p) ≡ 3 * conditional_count (gates_of c.table)
  unfolding triples_of
  triples_long = length_piece c.trustees (3 * conditional_count (gates_of c.table))
      c.lent.dealing.dealer_parts p good.dealer_size l

  parts_bits : only_bits (ballots_of (ballot_bytes c.shape) c.lent.dealing p) ≡ true
  unfolding ballots_of
  parts_bits = only_bits_back (piece (ballot_bytes c.shape) c.lent.dealing.ballot_parts p)
      (bits_piece (ballot_bytes c.shape) c.lent.dealing.ballot_parts p good.ballot_bits)

  triples_bits : only_bits (triples_of (gates_of c.table) c.lent.dealing p) ≡ true
  unfolding triples_of
  triples_bits = only_bits_back (piece (3 * conditional_count (gates_of c.table)) c.lent.dealing.dealer_parts p)
      (bits_piece (3 * conditional_count (gates_of c.table)) c.lent.dealing.dealer_parts p good.dealer_bits)

  fits : (ws published : List ℕ) → length ws ≡ ballot_bytes c.shape + length (gates_of c.table)
      → length published ≡ 2 * conditional_count (gates_of c.table) + c.shape.candidates
      → own_tables_fit (ballot_bytes c.shape) c.shape.candidates (size_of (gates_of c.table))
      (triples_of (gates_of c.table) c.lent.dealing p) ws published ≡ true
  unfolding own_tables_fit size_of
  fits ws published e f =
      rw (
        eq-eqb (length (triples_of (gates_of c.table) c.lent.dealing p)) (3 * conditional_count (gates_of c.table)) triples_long,
        eq-eqb (length ws) (ballot_bytes c.shape + length (gates_of c.table)) e,
        eq-eqb (length published) (2 * conditional_count (gates_of c.table) + c.shape.candidates) f,
      )

  -- the start passes its tests
  start_passes : (ws published : List ℕ) → length ws ≡ ballot_bytes c.shape + length (gates_of c.table)
      → length published ≡ 2 * conditional_count (gates_of c.table) + c.shape.candidates
      → first_of (start_reasons c.shape c.table c.trustees p
      (ballots_of (ballot_bytes c.shape) c.lent.dealing p) (triples_of (gates_of c.table) c.lent.dealing p)
      ws published) ≡ none
  unfolding start_reasons own_reasons
  start_passes ws published e f =
      behind (test_reasons c.shape c.table) _ passed.test.reasons ∙ pass _ 16 _ trustee
      ∙ pass _ 17 _ (and_both _ _ true
      (eq-eqb (length (ballots_of (ballot_bytes c.shape) c.lent.dealing p)) (ballot_bytes c.shape)
      parts_long) (fits ws published e f))
      ∙ pass _ 18 [] (and_both _ _ true parts_bits triples_bits) ∙ end

  -- no round changes a length
  pub lengths : (r : ℕ) → (length
      ((holdings_after c.trustees (ballot_bytes c.shape) (gates_of c.table) c.shape.candidates
      c.lent.dealing r).wire_parts p) ≡ ballot_bytes c.shape + length (gates_of c.table))
      × (length ((holdings_after c.trustees (ballot_bytes c.shape) (gates_of c.table) c.shape.candidates
      c.lent.dealing r).published p) ≡ 2 * conditional_count (gates_of c.table) + c.shape.candidates)
  unfolding holdings_after start_wires start_published parts_after published_after
  lengths zero = (
    length-append (ballots_of (ballot_bytes c.shape) c.lent.dealing p)
        (replicate (length (gates_of c.table)) 0)
        ∙ ap (λ (n : ℕ). n + length (replicate {A = ℕ} (length (gates_of c.table)) 0)) parts_long
        ∙ ap (λ (n : ℕ). ballot_bytes c.shape + n) (length-replicate {A = ℕ} (length (gates_of c.table)) 0),
    length-replicate {A = ℕ} (2 * conditional_count (gates_of c.table) + c.shape.candidates) 0,
  )
  lengths (suc r) =
      let h = holdings_after c.trustees (ballot_bytes c.shape) (gates_of c.table) c.shape.candidates c.lent.dealing r in
      let u = turn_of c.trustees (ballot_bytes c.shape) (gates_of c.table) c.lent.dealing r h.published p in
      let W = enters u (gates_of c.table) 0 0 (h.wire_parts p) in
      let before = lengths r in (
        length_enters u (gates_of c.table) 0 0 (h.wire_parts p) ∙ before.0,
        length_closes r (rounds_of (ballot_bytes c.shape) (gates_of c.table))
            (conditional_count (gates_of c.table)) c.shape.candidates W
            (publishes u W (gates_of c.table) 0 0 (h.published p))
            ∙ length_publishes u W (gates_of c.table) 0 0 (h.published p) ∙ before.1,
      )

  heard_long : (r : ℕ) → length (heard_before c r) ≡ 2 * conditional_count (gates_of c.table)
  unfolding heard_before sums_of
  heard_long r = length_sums c.trustees (2 * conditional_count (gates_of c.table)) 0
      (holdings_after c.trustees (ballot_bytes c.shape) (gates_of c.table) c.shape.candidates
      c.lent.dealing r).published

  heard_bits : (r : ℕ) → only_bits (heard_before c r) ≡ true
  unfolding heard_before sums_of
  heard_bits r =
      let all = (holdings_after c.trustees (ballot_bytes c.shape) (gates_of c.table) c.shape.candidates
      c.lent.dealing r).published in
      only_bits_back (sums_from c.trustees (2 * conditional_count (gates_of c.table)) 0 all)
      (sums_bits c.trustees (2 * conditional_count (gates_of c.table)) 0 all)

  -- a round passes its tests
  round_passes : (r : ℕ) → r ≤ rounds_of (ballot_bytes c.shape) (gates_of c.table)
      → first_of (round_reasons c.shape c.table c.trustees p r
      (levels_of (ballot_bytes c.shape) (gates_of c.table)) (triples_of (gates_of c.table) c.lent.dealing p)
      (heard_before c r) ((holdings_after c.trustees (ballot_bytes c.shape) (gates_of c.table)
      c.shape.candidates c.lent.dealing r).wire_parts p)
      ((holdings_after c.trustees (ballot_bytes c.shape) (gates_of c.table) c.shape.candidates
      c.lent.dealing r).published p)) ≡ none
  unfolding round_reasons table_reasons
  round_passes r e =
      let h = lengths r in
      behind (test_reasons c.shape c.table) _ passed.test.reasons ∙ pass _ 16 _ trustee
      ∙ pass _ 17 _ (fits _ _ h.0 h.1) ∙ pass _ 18 _ triples_bits
      ∙ pass _ 200 _ (same_refl (levels_of (ballot_bytes c.shape) (gates_of c.table)))
      ∙ pass _ 201 _ (le-leb r (rounds_of (ballot_bytes c.shape) (gates_of c.table)) e)
      ∙ pass _ 202 [] (and_both _ _ true
      (eq-eqb (length (heard_before c r)) (2 * conditional_count (gates_of c.table)) (heard_long r)) (heard_bits r))
      ∙ end

  pub calls_of : CallsOf c p
  unfolding start_outcome started_wires started_published round_outcome rounded_wires rounded_published wires_made
      published_made own_turn holdings_after parts_after published_after turn_of heard_before
  calls_of =
      record {
        start = λ ws published e f.
            let why = start_passes ws published e f in
            record {
              answer = sym (outcome_none _ (size_of (gates_of c.table)) (size_of (gates_of c.table)) why refl);
              wires = sym (left_new _ (start_wires (length (gates_of c.table))
                  (ballots_of (ballot_bytes c.shape) c.lent.dealing p)) ws why);
              bits = sym (left_new _ (start_published (conditional_count (gates_of c.table)) c.shape.candidates) published why);
            };
        round = λ r e.
            let why = round_passes r e in
            let h = holdings_after c.trustees (ballot_bytes c.shape) (gates_of c.table) c.shape.candidates c.lent.dealing r in
            let own = levels_of (ballot_bytes c.shape) (gates_of c.table) in
            let triples = triples_of (gates_of c.table) c.lent.dealing p in
            record {
              answer = sym (outcome_none _ (depths_of (ballot_bytes c.shape) (gates_of c.table))
                  (depths_of (ballot_bytes c.shape) (gates_of c.table)) why refl);
              wires = sym (left_new _ (wires_made c.shape c.table p r own triples (heard_before c r)
                  (h.wire_parts p)) (h.wire_parts p) why);
              bits = sym (left_new _ (published_made c.shape c.table p r own triples (heard_before c r)
                  (h.wire_parts p) (h.published p)) (h.published p) why);
            };
      }

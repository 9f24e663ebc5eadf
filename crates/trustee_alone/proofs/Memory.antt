-- The numbers of the calls' reasons, that a refusal changes nothing, and that no call changes a length.
-- Assumes nothing.
use mathlib.Core.Path.{◌≡◌, ◌∙◌, refl, sym, ap}
use mathlib.Core.Bool.{Bool, true, false, cond}
use mathlib.Core.Option.{Option, none, some}
use mathlib.Core.List.{List}
use Prim.Native.Nat.{ℕ, ◌+◌, ◌*◌}
use lib.Dec.{T, eqb}
use lib.ListN.{length, replicate, length-append, length-replicate}
use lib.Seq.{sets, length-sets}
use borrow.Author.Tests.{eqb-true}
use Rattle.basics.specs.Lists.{all, member}
use Rattle.gates.specs.Gate.{gates_of}
use Rattle.gates.specs.Board.{conditional_count}
use Rattle.jury.specs.declared.shape.Shape.{Shape}
use Rattle.jury.specs.Shape.{ballot_bytes}
use Rattle.jury.specs.Reason.{Reason, reason_at, first_of}
use Rattle.tally.specs.Answer.{refused, accepted, has_number_in, Size, size_of, afterwards}
use Rattle.tally.specs.Test.{test_reasons, test_reason_numbers}
use Rattle.tally.proofs.Numbering.{All, refused_number, both, unless_fine, wider, test_all}
use Rattle.tally.specs.Memory.{Each}
use Rattle.basics.proofs.Flags.{and_first, and_second}
use Rattle.levels.specs.Answer.{depths_of}
use Rattle.tally.proofs.RunReasons.{outcome_refused, accepted_values}
use Rattle.gate_levels.specs.Levels.{rounds_of}
use Rattle.trustee_shares.specs.Views.{closing_parts}
use Rattle.trustee_rounds.specs.Rounds.{enters, publishes, closes, start_wires, start_published}
use Rattle.trustee_rounds.proofs.Closing.{length_enters, length_publishes}
use Rattle.trustee_alone.specs.Own.{own_tables_fit}
use Rattle.trustee_alone.specs.Start.{own_reasons, start_reasons, start_reason_numbers, start_outcome, started_wires, started_published}
use Rattle.trustee_alone.specs.Rounds.{table_reasons, round_reasons, round_reason_numbers, round_outcome, own_turn, wires_made, published_made, rounded_wires, rounded_published}
use Rattle.trustee_alone.specs.Finish.{finish_reasons, finish_reason_numbers, finish_outcome, finished_wires}
use Rattle.trustee_alone.specs.Demands.{AloneMemory}
use Rattle.trustee_alone.proofs.Tests.{passed, both_passed, left_old, left_new}
use Rattle.trustee_alone.proofs.Sizes.{fit}

pub start_number : (s : Shape) (table : List ℕ) (t p : ℕ) (shares triples ws published : List ℕ) (r : Reason)
    → start_outcome s table t p shares triples ws published ≡ refused r → T (has_number_in start_reason_numbers r)
unfolding start_outcome start_reasons own_reasons All all member reason_at
start_number s table t p shares triples ws published =
    let ns = start_reason_numbers in
    refused_number ns (start_reasons s table t p shares triples ws published) (size_of (gates_of table))
    (both ns (test_reasons s table) _ (wider test_reason_numbers ns tt (test_reasons s table) (test_all s table))
    (unless_fine ns _ 16 tt, (unless_fine ns _ 17 tt, (unless_fine ns _ 18 tt, tt))))

pub round_number : (s : Shape) (table : List ℕ) (t p round : ℕ) (levels triples heard ws published : List ℕ)
    (r : Reason) → round_outcome s table t p round levels triples heard ws published ≡ refused r
    → T (has_number_in round_reason_numbers r)
unfolding round_outcome round_reasons table_reasons All all member reason_at
round_number s table t p round levels triples heard ws published =
    let ns = round_reason_numbers in
    refused_number ns (round_reasons s table t p round levels triples heard ws published)
    (depths_of (ballot_bytes s) (gates_of table))
    (both ns (test_reasons s table) _ (wider test_reason_numbers ns tt (test_reasons s table) (test_all s table)) (
      unless_fine ns _ 16 tt,
      (
        unless_fine ns _ 17 tt,
        (
          unless_fine ns _ 18 tt,
          (unless_fine ns _ 200 tt, (unless_fine ns _ 201 tt, (unless_fine ns _ 202 tt, tt))),
        ),
      ),
    ))

pub finish_number : (s : Shape) (table ws : List ℕ) (r : Reason) → finish_outcome s table ws ≡ refused r
    → T (has_number_in finish_reason_numbers r)
unfolding finish_outcome finish_reasons All all member reason_at
finish_number s table ws =
    let ns = finish_reason_numbers in
    refused_number ns (finish_reasons s table ws) (size_of (gates_of table))
    (both ns (test_reasons s table) _ (wider test_reason_numbers ns tt (test_reasons s table) (test_all s table)) (unless_fine ns _ 17 tt, tt))

start_refused : (s : Shape) (table : List ℕ) (t p : ℕ) (shares triples ws published : List ℕ) (r : Reason)
    → start_outcome s table t p shares triples ws published ≡ refused r
    → (started_wires s table t p shares triples ws published ≡ ws) × (started_published s table t p shares triples ws published ≡ published)
unfolding start_outcome started_wires started_published
start_refused s table t p shares triples ws published r e =
    let o = first_of (start_reasons s table t p shares triples ws published) in
    let why = outcome_refused o (size_of (gates_of table)) r e in (
      sym (left_old o (start_wires (length (gates_of table)) shares) ws r why),
      sym (left_old o (start_published (conditional_count (gates_of table)) s.candidates) published r why),
    )

round_refused : (s : Shape) (table : List ℕ) (t p round : ℕ) (levels triples heard ws published : List ℕ) (r : Reason)
    → round_outcome s table t p round levels triples heard ws published ≡ refused r
    → (rounded_wires s table t p round levels triples heard ws published ≡ ws)
    × (rounded_published s table t p round levels triples heard ws published ≡ published)
unfolding round_outcome rounded_wires rounded_published
round_refused s table t p round levels triples heard ws published r e =
    let o = first_of (round_reasons s table t p round levels triples heard ws published) in
    let why = outcome_refused o (depths_of (ballot_bytes s) (gates_of table)) r e in (
      sym (left_old o (wires_made s table p round levels triples heard ws) ws r why),
      sym (left_old o (published_made s table p round levels triples heard ws published) published r why),
    )

finish_refused : (s : Shape) (table ws : List ℕ) (r : Reason) → finish_outcome s table ws ≡ refused r → finished_wires s table ws ≡ ws
unfolding finish_outcome finished_wires
finish_refused s table ws r e =
    let o = first_of (finish_reasons s table ws) in
    sym (left_old o (replicate (length ws) 0) ws r (outcome_refused o (size_of (gates_of table)) r e))

finish_empties : (s : Shape) (table ws : List ℕ) (size : Size) → finish_outcome s table ws ≡ accepted size
    → finished_wires s table ws ≡ replicate (length ws) 0
unfolding finish_outcome finished_wires
finish_empties s table ws size e =
    let o = first_of (finish_reasons s table ws) in
    sym (left_new o (replicate (length ws) 0) ws (accepted_values o (size_of (gates_of table)) size e).0)

-- no call changes a length
pub length_closes : (round last conditional k : ℕ) (ws published : List ℕ)
    → length (closes round last conditional k ws published) ≡ length published
unfolding closes
length_closes round last conditional k ws published = go (eqb round last)
  where
    go : (b : Bool) → length (cond b (sets published (2 * conditional) (closing_parts k ws)) published) ≡ length published
    go true = length-sets published (2 * conditional) (closing_parts k ws)
    go false = refl

kept : (o : Option Reason) (new old : List ℕ) → (o ≡ none → length new ≡ length old) → length (afterwards o new old) ≡ length old
unfolding afterwards
kept (some r) new old h = refl
kept none new old h = h refl

start_fit : (s : Shape) (table : List ℕ) (t p : ℕ) (shares triples ws published : List ℕ)
    → first_of (start_reasons s table t p shares triples ws published) ≡ none
    → (length (start_wires (length (gates_of table)) shares) ≡ length ws)
    × (length (start_published (conditional_count (gates_of table)) s.candidates) ≡ length published)
unfolding start_reasons own_reasons start_wires start_published
start_fit s table t p shares triples ws published e =
    let inputs = ballot_bytes s in
    let gs = gates_of table in
    let two = both_passed (test_reasons s table) _ e in
    let at17 = (passed _ 17 _ (passed _ 16 _ two.1).1).0 in
    let a = eqb (length shares) inputs in
    let b = own_tables_fit inputs s.candidates (size_of gs) triples ws published in
    let long = eqb-true (length shares) inputs (and_first a b at17) in
    let f = fit inputs s.candidates gs triples ws published (and_second a b at17) in (
      length-append shares (replicate (length gs) 0) ∙ ap (λ (n : ℕ). length shares + n) (length-replicate {A = ℕ} (length gs) 0)
          ∙ ap (λ (n : ℕ). n + length gs) long ∙ sym f.wires_length,
      length-replicate {A = ℕ} (2 * conditional_count gs + s.candidates) 0 ∙ sym f.published_length,
    )

start_lengths : (s : Shape) (table : List ℕ) (t p : ℕ) (shares triples ws published : List ℕ)
    → (length (started_wires s table t p shares triples ws published) ≡ length ws)
    × (length (started_published s table t p shares triples ws published) ≡ length published)
unfolding started_wires started_published
start_lengths s table t p shares triples ws published =
    let o = first_of (start_reasons s table t p shares triples ws published) in (
      kept o (start_wires (length (gates_of table)) shares) ws (λ e. (start_fit s table t p shares triples ws published e).0),
      kept o (start_published (conditional_count (gates_of table)) s.candidates) published
          (λ e. (start_fit s table t p shares triples ws published e).1),
    )

round_lengths : (s : Shape) (table : List ℕ) (t p round : ℕ) (levels triples heard ws published : List ℕ)
    → (length (rounded_wires s table t p round levels triples heard ws published) ≡ length ws)
    × (length (rounded_published s table t p round levels triples heard ws published) ≡ length published)
unfolding rounded_wires rounded_published wires_made published_made
round_lengths s table t p round levels triples heard ws published =
    let o = first_of (round_reasons s table t p round levels triples heard ws published) in
    let gs = gates_of table in
    let u = own_turn s p round levels triples heard in
    let W = enters u gs 0 0 ws in (
      kept o W ws (λ e. length_enters u gs 0 0 ws),
      kept o (closes round (rounds_of (ballot_bytes s) gs) (conditional_count gs) s.candidates W (publishes u W gs 0 0 published)) published
          (λ e. length_closes round (rounds_of (ballot_bytes s) gs) (conditional_count gs) s.candidates W
          (publishes u W gs 0 0 published) ∙ length_publishes u W gs 0 0 published),
    )

finish_length : (s : Shape) (table ws : List ℕ) → length (finished_wires s table ws) ≡ length ws
unfolding finished_wires
finish_length s table ws = kept (first_of (finish_reasons s table ws)) (replicate (length ws) 0) ws
    (λ e. length-replicate {A = ℕ} (length ws) 0)

pub memory : AloneMemory
unfolding Each
memory =
    record {
      start = λ s table t p shares triples ws published.
          let long = start_lengths s table t p shares triples ws published in
          record {
            number = start_number s table t p shares triples ws published;
            refusal = λ r e. let q = start_refused s table t p shares triples ws published r e in (q.0, (q.1, tt));
            empties = λ size e. tt;
            lengths = (long.0, (long.1, tt));
          };
      round = λ s table t p round levels triples heard ws published.
          let long = round_lengths s table t p round levels triples heard ws published in
          record {
            number = round_number s table t p round levels triples heard ws published;
            refusal = λ r e. let q = round_refused s table t p round levels triples heard ws published r e in (q.0, (q.1, tt));
            empties = λ depths e. tt;
            lengths = (long.0, (long.1, tt));
          };
      finish = λ s table ws.
          record {
            number = finish_number s table ws;
            refusal = λ r e. (finish_refused s table ws r e, tt);
            empties = λ size e. (finish_empties s table ws size e, tt);
            lengths = (finish_length s table ws, tt);
          };
    }

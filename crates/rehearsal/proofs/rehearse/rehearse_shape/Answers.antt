-- `rehearsal::rehearse::rehearse_shape` meets its contract: if the write is refused, its reason is the answer;
-- otherwise the run decides.
use Rattle.std.proofs.Common.{◌≡◌, ◌∙◌, refl, ap, List, ℕ, ◌*◌, ◌-◌, ◌≤◌, length, take, arith}
use Rattle.std.specs.Prelude.{Ok}
use Rattle.jury.specs.declared.shape.Shape.{Shape}
use Rattle.tally.specs.Answer.{outcome_of}
use Rattle.tally.specs.Write.{write_outcome, write_result}
use Rattle.tally.proofs.Exits.{exit}
use Rattle.rehearsal.specs.Rehearsal.{shape_of_input, ballots_of_input, rehearsal_outcome, outcome_on}
use Rattle.rehearsal.specs.inner.Buffers.{Buffers, Cut}
use Rattle.rehearsal.specs.inner.Rehearses.{ballots_outcome, end_on}
use Rattle.rehearsal.proofs.Rehearsing.{cut_long, gates_few, list_fits, write_cut, by_the_run, by_the_write, ballots_after}
use Rattle.rehearsal.proofs.rehearse.rehearse_shape.Goals as goal

-- after an accepted write of g gates, n of them conditional
module _ (s : Shape) (table tape wires board : List ℕ) (l : Buffers table tape wires board) (g n : ℕ)
    (e : outcome_of (Ok (record { gates = g; conditional = n })) ≡ write_outcome s table) where
  fits : (written : List ℕ) → written ≡ write_result s table → 4 * g ≤ length written
  fits written leaves = omega (arith, ap length leaves, list_fits s table tape wires board l g n e)

  -- the list and the buffers are what the run requires
  cut : (written : List ℕ) → written ≡ write_result s table → Cut s (take (4 * g) written) g n tape wires board
  cut written leaves = write_cut s table tape wires board l g n e _ (ap (take (4 * g)) leaves)

  -- the run's answer is the rehearsal's
  same_answer : (input ballots : List ℕ) → s ≡ shape_of_input input → ballots ≡ ballots_of_input input
      → ballots_outcome s ballots ≡ rehearsal_outcome input table
  same_answer input ballots shape_is f =
      ap (ballots_outcome s) f ∙ by_the_run s table tape wires board l g n e input shape_is

pub returns-in_err-size : goal.returns-in_err-size
unfolding outcome_on end_on
returns-in_err-size c =
    let p = exit c.from_residual.result c.from_residual.ensures in
    rw (p.1, p.2) (record {
      answers = by_the_write c.args.input.now c.args.table.now c.args.shape c.in_err-size.field-0.0 c.requires.shape_is c.in_err-size.ensures.answers;
      on_board = omega arith;
    })

pub overflow_mul-list : goal.overflow_mul-list
overflow_mul-list c = record {
  fits = omega (
    arith,
    gates_few _ _ _ _ _ c.requires.buffers c.in_ok-size.size.gates c.in_ok-size.size.conditional
        c.in_ok-size.ensures.answers,
  );
}

pub slice_bounds-list-end : goal.slice_bounds-list-end
slice_bounds-list-end c =
    fits _ _ _ _ _ c.requires.buffers c.in_ok-size.size.gates c.in_ok-size.size.conditional
    c.in_ok-size.ensures.answers c.write.new.table c.in_ok-size.ensures.leaves

pub slice_bounds-list-end-2 : goal.slice_bounds-list-end-2
slice_bounds-list-end-2 c =
    cut_long (4 * c.in_ok-size.size.gates) c.write.new.table (fits _ _ _ _ _ c.requires.buffers c.in_ok-size.size.gates c.in_ok-size.size.conditional
    c.in_ok-size.ensures.answers c.write.new.table c.in_ok-size.ensures.leaves)

pub run_list-requires : goal.run_list-requires
run_list-requires c =
    cut _ _ _ _ _ c.requires.buffers c.in_ok-size.size.gates c.in_ok-size.size.conditional
    c.in_ok-size.ensures.answers c.write.new.table c.in_ok-size.ensures.leaves

pub returns : goal.returns
returns c =
    record {
      answers = c.run_list.ensures.answers ∙ same_answer _ _ _ _ _ c.requires.buffers c.in_ok-size.size.gates c.in_ok-size.size.conditional
          c.in_ok-size.ensures.answers c.args.input.now _ c.requires.shape_is
          (ballots_after c.args.input.now c.get.result _ c.unwrap_or-ballots.result c.get.ensures.lookup refl c.unwrap_or-ballots.ensures);
      on_board = c.run_list.ensures.on_board;
    }

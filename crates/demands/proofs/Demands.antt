-- `AllDemands` holds: each field is what a layer has proved.
-- Assumes nothing.
use mathlib.Core.Path.{refl}
use Rattle.basics.specs.Lists.{member}
use Rattle.gates.proofs.Hiding.{board_hides_inputs}
use Rattle.gates.proofs.KindsOnBits.{kinds_on_bits}
use Rattle.jury.specs.Shape.{graded_limits, within_limits}
use Rattle.jury.specs.Reason.{reason_at, unless, first_of}
use Rattle.basics.proofs.Flags.{T_true}
use Rattle.jury.proofs.Theorems.{width_rule, tests_accept, counts_hold}
use Rattle.rule_judgment.proofs.Theorems.{bytes_say, somebody, shared_win, equal_exactly, gauge_holds, gauge_alone}
use Rattle.rule_schulze.proofs.Theorems.{schulze_holds}
use Rattle.ranked_circuit.proofs.CostLaws.{ranking_conditional}
use Rattle.tally.specs.Answer.{outcome}
use Rattle.tally.specs.Memory.{Each}
use Rattle.tally.proofs.Numbering.{All, refused_number, unless_fine, found_fine}
use Rattle.tally.proofs.OwnList.{own_list_holds}
use Rattle.tally.proofs.Demands.{three_demands}
use Rattle.tally.proofs.RunAlone.{run_alone}
use Rattle.tally.proofs.FlatReasons.{flat_reasons}
use Rattle.tally.proofs.Examples.{pair_of_runs}
use Rattle.season.specs.Season.{sheet_reasons, sheet_reason_numbers, totals_of, runs_in}
use Rattle.tally.proofs.Monotone.{monotone_on_gates}
use Rattle.tally.proofs.RaisedRuns.{raised_runs}
use Rattle.text.proofs.RoundTrip.{round_trip, text_memory}
use Rattle.text.proofs.Order.{text_order}
use Rattle.text.proofs.Examples.{text_examples}
use Rattle.urn_chains.specs.Slots.{slot_bytes}
use Rattle.urn_chains.specs.Sound.{jury_of_one, slot_count, urn_length}
use Rattle.urn.specs.Empty.{empty_reasons, empty_outcome}
use Rattle.urn.proofs.UrnMemory.{urn_memory}
use Rattle.urn.proofs.UrnTheorems.{urn_holds, previews_tell}
use Rattle.urn.proofs.Order.{urn_order}
use Rattle.urn_run.proofs.Theorems.{urn_run_holds}
use Rattle.urn_run.proofs.Examples.{pair_of_urns}
use Rattle.trustee_shares.proofs.Examples.{pair_of_dealings}
use Rattle.trustees.specs.Reasons.{part_reasons}
use Rattle.trustees.proofs.Demands.{trustees_hold}
use Rattle.levels.proofs.Demands.{levels_hold}
use Rattle.trustee_alone.proofs.Demands.{alone_holds}
use Rattle.dispatch.specs.Reasons.{dispatch_reasons}
use Rattle.dispatch.specs.Result.{dispatch_result_after, dispatch_result}
use Rattle.dispatch.proofs.Theorems.{dispatching}
use Rattle.dispatch.proofs.Examples.{pair_of_calls}
use Rattle.batch_lanes.proofs.Examples.{two_lanes}
use Rattle.batch.proofs.Theorems.{each_as_alone, accepted_as_all, batch_memory, batch_accuracy, batch_hiding}
use Rattle.batch.proofs.Refusals.{refused_as_alone, fault_as_alone}
use Rattle.demands.specs.Demands.{SheetMemory, Edges, AllDemands}
use Rattle.season.proofs.Reasons.{sheet_sums}

sheet_memory : SheetMemory
unfolding All sheet_reasons member reason_at Each
sheet_memory bytes =
    let ns = sheet_reason_numbers in
    record {
      number = refused_number ns (sheet_reasons bytes) (totals_of (runs_in bytes))
          (unless_fine ns _ 21 tt, (found_fine ns 22 _ (λ i. tt), tt));
      refusal = λ r e. tt;
      empties = λ values e. tt;
      lengths = tt;
    }

edges : Edges
unfolding dispatch_result dispatch_result_after dispatch_reasons part_reasons unless first_of empty_outcome empty_reasons outcome
    graded_limits jury_of_one urn_length slot_count slot_bytes
edges =
    record {
      one_slot = λ table e. rw e;
      two_slots = λ table e. rw e;
      most_slots = λ table e. rw e;
      too_many_slots = λ table e. rw e;
      no_juries = λ c e. rw e;
      nine_juries = λ c e. rw e;
      no_gates_per_round = λ c e f. rw (e, f);
      too_many_per_round = λ c e f. rw (e, f);
      one_trustee = λ k size ballots lent. refl;
      six_trustees = λ k size ballots lent. refl;
    }

pub all_demands : AllDemands
all_demands =
    record {
      memory = record {
        base = three_demands.memory;
        text = text_memory;
        sheet = sheet_memory;
        urn = urn_memory;
        urn_run = urn_run_holds.memory;
        by_trustees = trustees_hold.memory;
        dispatcher = dispatching.memory;
        lanes = batch_memory;
        levels = levels_hold.memory;
        trustees_apart = alone_holds.memory;
      };
      accuracy = record {
        own_list_holds = λ s t. own_list_holds s (T_true (within_limits s) t);
        own_list = three_demands.accuracy;
        plain_count = three_demands.counting;
      };
      hiding = three_demands.hiding;
      run_alone = run_alone;
      run_reasons = flat_reasons;
      any_list = board_hides_inputs;
      kinds = kinds_on_bits;
      urn_order = urn_order;
      text_order = text_order;
      edges = edges;
      examples = record {
        runs = pair_of_runs;
        urns = pair_of_urns;
        dealings = pair_of_dealings;
        calls = pair_of_calls;
        lanes = two_lanes;
        texts = text_examples;
      };
      juries = record { width = width_rule; accepted = tests_accept; counts = counts_hold };
      rules = record {
        judgment_bytes = bytes_say;
        judgment_somebody = somebody;
        judgment_shared = shared_win;
        judgment_sequences = equal_exactly;
        gauge = gauge_holds;
        gauge_kept = gauge_alone;
        schulze = schulze_holds;
      };
      text = round_trip;
      sheet = sheet_sums;
      monotone = monotone_on_gates;
      raised_runs = raised_runs;
      ranking_cost = ranking_conditional;
      urn = urn_holds;
      previews = previews_tell;
      urn_run = urn_run_holds;
      by_trustees = trustees_hold;
      dispatcher = dispatching;
      lanes_alone = each_as_alone;
      lanes_accepted = accepted_as_all;
      lanes_refused = refused_as_alone;
      lanes_fault = fault_as_alone;
      lanes_accuracy = batch_accuracy;
      lanes_hiding = batch_hiding;
      levels = levels_hold;
      trustees_apart = alone_holds;
    }

-- Proofs of the statements of specs/Theorems.antt and specs/GaugeTheorems.antt, and that accepted ballots meet their
-- conditions.
-- Assumes nothing.
use mathlib.Core.List.{List, []}
use mathlib.Core.Path.{refl}
use Prim.Native.Nat.{ℕ, ◌<◌}
use native.Mathlib.Omega.{arith}
use lib.ListN.{length, get_or}
use Rattle.basics.specs.Lists.{same_numbers}
use Rattle.basics.proofs.Flags.{either}
use Rattle.basics.proofs.Same.{same_true}
use Rattle.jury.specs.declared.shape.Shape.{Shape}
use Rattle.jury.specs.Counts.{counts_of, count_array}
use Rattle.jury.specs.inner.Counts.{rows_in}
use Rattle.jury.specs.Accepted.{GradedBallots}
use Rattle.jury.proofs.Limits.{within}
use Rattle.jury.proofs.Matrix.{array_rows}
use Rattle.jury.proofs.CountFacts.{counts_length, counts_sum}
use Rattle.rule_judgment.specs.Theorems.{EachGets, BytesSay, SomebodyWins, GaugeKept, SharedWin, EqualSequences}
use Rattle.rule_judgment.specs.Median.{median_of}
use Rattle.rule_judgment.specs.Gauge.{p_of, q_of}
use Rattle.rule_judgment.specs.GaugeWinner.{Gauged}
use Rattle.rule_judgment.specs.GaugeTheorems.{GaugeHolds}
use Rattle.rule_judgment.proofs.MedianFacts.{median_passed, median_reached}
use Rattle.rule_judgment.proofs.GaugeConditions.{conditions_exclude}
use Rattle.rule_judgment.proofs.GaugeClosing.{closing_length, one_winner, single_wins}
use Rattle.rule_judgment.proofs.GaugeClosing as gauge
use Rattle.rule_judgment.proofs.Winners.{byte_says, somebody_wins}
use Rattle.rule_judgment.proofs.GaugeAgrees.{winner_wins, other_loses}
use Rattle.rule_judgment.proofs.Equal.{equal_sequences}
use Rattle.rule_judgment.proofs.Leading.{other_loses as loses_beside}

pub bytes_say : BytesSay
bytes_say n rows each i h = byte_says n rows each i h

pub somebody : SomebodyWins
somebody = somebody_wins

pub gauge_alone : GaugeKept
gauge_alone n rows some each i wins = record { wins = winner_wins n rows some each i wins; alone = other_loses n rows some each i wins }

pub shared_win : SharedWin
shared_win n rows each i j hi hj long one two =
    either (same_numbers (get_or rows i []) (get_or rows j [])) (same_true (get_or rows i []) (get_or rows j []))
    (λ e. absurd (omega (arith, one, loses_beside n rows each j hj two i hi long e)))

pub equal_exactly : EqualSequences
equal_exactly = equal_sequences

-- every candidate of accepted ballots has n grades
pub each_gets : (s : Shape) (xs : List ℕ) → GradedBallots s xs → EachGets s.ballots (counts_of s xs)
each_gets s xs a i l = counts_sum s xs a i (omega (arith, counts_length s xs))

-- the same for the array in which the program keeps their counts
pub array_gets : (s : Shape) (xs : List ℕ) → GradedBallots s xs
    → EachGets s.ballots (rows_in s.candidates s.grades (count_array s xs))
array_gets s xs a = rw (array_rows s xs (within s a.within)) (each_gets s xs a)

gauged : (row : List ℕ) → 0 < length row → Gauged row (median_of row) (p_of row) (q_of row)
unfolding p_of q_of
gauged row h = record {
  a_grade = (median_reached row h).0;
  reached = (median_reached row h).1;
  first = median_passed row;
  better = refl;
  worse = refl;
}

pub gauge_holds : GaugeHolds
gauge_holds =
    record {
      gauged = gauged;
      bytes = closing_length;
      byte = gauge.byte_says;
      one_winner = one_winner;
      single_wins = single_wins;
      exclusive = conditions_exclude;
    }

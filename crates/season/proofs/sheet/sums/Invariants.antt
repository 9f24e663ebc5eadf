-- `season::sheet::sums`: the totals so far plus those of the rest are the totals of all.
use Rattle.std.proofs.Common.{◌≡◌, ◌+◌, ◌*◌, ◌≤◌, length}
use Rattle.std.specs.Slice.Iter.{chunks_exact_rest, chunks_exact_size}
use Rattle.season.specs.Season.{run_bytes, most_runs, runs_in, totals_of}
use Rattle.season.specs.inner.Sums.{SumsOf}
use Rattle.season.proofs.SumLaws.{plus}
use Rattle.season.proofs.sheet.sums.Given as goal

abbrev pub invariant-loop-run : goal.invariant-loop-run
invariant-loop-run l = record {
  size : chunks_exact_size l.run-iterator ≡ run_bytes;
  few : length l.yielded * run_bytes + length (chunks_exact_rest l.run-iterator) ≤ most_runs * run_bytes;
  bounds : SumsOf (length l.yielded) l.totals;
  rest : plus l.totals (totals_of (runs_in (chunks_exact_rest l.run-iterator))) ≡ totals_of (runs_in l.bytes);
}

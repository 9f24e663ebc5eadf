-- `season::sheet::first_bad`: the first bad run of the rest is the first bad run of all.
use Rattle.std.proofs.Common.{◌≡◌}
use Rattle.std.specs.Slice.Iter.{chunks_exact_rest, chunks_exact_size}
use Rattle.std.specs.Iterator.Adapters.{enumerate_source, enumerate_count}
use Rattle.season.specs.Season.{run_bytes, runs_in, first_bad_run}
use Rattle.season.proofs.sheet.first_bad.Given as goal

abbrev pub invariant-loop-i : goal.invariant-loop-i
invariant-loop-i l = record {
  size : chunks_exact_size (enumerate_source l.i-iterator) ≡ run_bytes;
  rest : first_bad_run (enumerate_count l.i-iterator) (runs_in (chunks_exact_rest (enumerate_source l.i-iterator)))
      ≡ first_bad_run 0 (runs_in l.bytes);
}

-- `season::sheet::sums` meets its contract: the totals so far plus those of the rest are the totals of all.
use Rattle.std.proofs.Common.{◌≡◌, ◌∙◌, sym, ap, subst, List, [], ◌∷◌, ◌++◌, ℕ, ◌+◌, ◌*◌, ◌≤◌, length, length-append, rules, arith}
use Rattle.std.specs.Slice.Iter.{chunks_exact_rest}
use Rattle.season.specs.Season.{runs_in, totals_of}
use Rattle.season.specs.inner.Sums.{SumsOf}
use Rattle.season.proofs.SumLaws.{plus_start, sums_turn, sums_end, sums_most, sums_grow}
use Rattle.season.proofs.sheet.sums.Goals as goal

pub loop-run-init : goal.loop-run-init
loop-run-init c =
    let all : chunks_exact_rest c.into_iter-run-iterator.result ≡ c.args.bytes.now = search rules in
    record {
      size = search rules;
      few = omega (arith, ap length all, c.requires);
      bounds = record {
        runs_most = omega arith;
        gates_most = omega arith;
        conditional_most = omega arith;
        ballots_most = omega arith;
        shared_most = omega arith;
      };
      rest = plus_start _ ∙ ap (λ (xs : List ℕ). totals_of (runs_in xs)) all;
    }

-- the runs of all turns so far
few : (n : ℕ) (old run rest : List ℕ) → n * 12 + length old ≤ 49152 → old ≡ run ++ rest → length run ≡ 12
    → ((n + 1) * 12 + length rest ≤ 49152) × (n ≤ 4096)
few n old run rest h e l = (omega (arith, ap length e, length-append run rest), omega arith)

pub plus-totals-requires : goal.plus-totals-requires
plus-totals-requires c =
    record {
      run = c.read.ensures.small;
      sums = sums_most (length c.loop-run.yielded) 4096 c.loop-run.totals (omega (arith, c.loop-run.invariant.few)) c.loop-run.invariant.bounds;
    }

pub loop-run-preserved : goal.loop-run-preserved
loop-run-preserved c =
    let l = c.loop-run in
    let s = c.in-Some.ensures.steps in
    let old = chunks_exact_rest l.run-iterator in
    let rest = chunks_exact_rest c.next.new.self in
    let run = c.in-Some.run'.now in
    let more : length (l.yielded ++ c.in-Some.run' ∷ []) ≡ length l.yielded + 1 = omega (arith, length-append l.yielded (c.in-Some.run' ∷ [])) in
    let long : length run ≡ 12 = s.1.1 ∙ l.invariant.size in
    record {
      size = s.0 ∙ l.invariant.size;
      few = omega (arith, more, (few (length l.yielded) old run rest l.invariant.few s.1.0 long).0);
      bounds = subst (λ (n : ℕ). SumsOf n c.plus-totals.result) (sym more)
          (sums_grow (length l.yielded) l.totals c.plus-totals.result c.read.result l.invariant.bounds c.read.ensures.small c.plus-totals.ensures);
      rest = sums_turn l.totals c.plus-totals.result c.read.result old run rest s.1.0 long c.read.ensures.is c.plus-totals.ensures
          ∙ l.invariant.rest;
    }

pub returns : goal.returns
returns c =
    let l = c.loop-run in
    let s = c.in-None.ensures.steps in
    sym (sums_end l.totals (chunks_exact_rest l.run-iterator) (omega (arith, s.1.0, l.invariant.size))) ∙ l.invariant.rest

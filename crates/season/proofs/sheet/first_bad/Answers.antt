-- `season::sheet::first_bad` meets its contract: the first bad run of the rest is the first bad run of all.
use Rattle.std.proofs.Common.{◌∙◌, sym, ap, ℕ, arith}
use Rattle.std.specs.Prelude.{Some}
use Rattle.std.specs.Slice.Iter.{chunks_exact_rest}
use Rattle.std.specs.Iterator.Adapters.{enumerate_source, enumerate_count}
use Rattle.season.specs.Season.{runs_in, good_run, first_bad_run}
use Rattle.season.proofs.RunLaws.{bad_here, bad_later, bad_end}
use Rattle.season.proofs.sheet.first_bad.Goals as goal

pub returns-then-not-is_good : goal.returns-then-not-is_good
returns-then-not-is_good c =
    let l = c.loop-i in
    let s = c.in-Some.ensures.steps in
    ap Some s.1
    ∙ sym (bad_here (enumerate_count l.i-iterator) (chunks_exact_rest (enumerate_source l.i-iterator)) c.in-Some.run'.now
    (chunks_exact_rest (enumerate_source c.next.new.self)) s.0.1.0 (s.0.1.1 ∙ l.invariant.size)
    (sym (c.is_good.ensures ∙ ap good_run c.read.ensures.is) ∙ c.if-not-is_good.true))
    ∙ l.invariant.rest

pub loop-i-preserved : goal.loop-i-preserved
loop-i-preserved c =
    let l = c.loop-i in
    let s = c.in-Some.ensures.steps in
    let rest = chunks_exact_rest (enumerate_source c.next.new.self) in
    record {
      size = s.0.0 ∙ l.invariant.size;
      rest = ap (λ (n : ℕ). first_bad_run n (runs_in rest)) s.2
          ∙ sym (bad_later (enumerate_count l.i-iterator) (chunks_exact_rest (enumerate_source l.i-iterator)) c.in-Some.run'.now rest
          s.0.1.0 (s.0.1.1 ∙ l.invariant.size) (sym (c.is_good.ensures ∙ ap good_run c.read.ensures.is) ∙ c.if-not-is_good.false))
          ∙ l.invariant.rest;
    }

pub returns : goal.returns
returns c =
    let l = c.loop-i in
    let s = c.in-None.ensures.steps in
    sym (bad_end (enumerate_count l.i-iterator) (chunks_exact_rest (enumerate_source l.i-iterator))
    (omega (arith, s.0.1.0, l.invariant.size))) ∙ l.invariant.rest

-- `graded_writer::list::halves` meets its contract: a merge at the places of both groups.
-- Assumes nothing.
use Prim.Native.Nat.{◌+◌}
use native.Mathlib.Omega.{arith}
use Rattle.graded_writer.proofs.ListWriters.{key_below, won_below}
use Rattle.graded_writer.proofs.list.halves.Goals as goal

pub merge-requires : goal.merge-requires
merge-requires c = let a = c.args in
    let f = c.requires.plan in
    let q = c.requires in
    let n = a.w.wire in
    record {
      plan = f;
      room = c.requires.room;
      first_below = omega (
        arith,
        c.best_key-x.ensures,
        key_below a.p f a.c a.first a.middle n (omega (arith, q)) (omega (arith, q))
            (omega (arith, q)) (λ z. let k = q.first_below z in omega arith),
      );
      second_below = omega (
        arith,
        c.best_key-y.ensures,
        key_below a.p f (a.c + a.first) a.second n n (omega (arith, q)) (omega (arith, q)) (omega arith)
            (λ z. let k = q.second_below z in omega arith),
      );
      first_some = q.first_some;
      second_some = q.second_some;
      first_won = λ z. omega (
        arith,
        c.winner_flags-u.ensures,
        won_below a.p f a.first a.middle n (omega (arith, q))
            (λ y. let k = q.first_below y in omega arith) z,
      );
      second_won = λ z. omega (
        arith,
        c.winner_flags-v.ensures,
        won_below a.p f a.second n n (omega arith) (λ y. let k = q.second_below y in omega arith) z,
      );
    }

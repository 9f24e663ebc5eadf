-- `ranked_blocks::entries::new_word` meets its contract: a link's strength, or the stronger of a path and a way.
-- Assumes nothing.
use mathlib.Core.Path.{◌≡◌, ◌∙◌, sym, ap}
use mathlib.Core.Logic.{◌≢◌}
use mathlib.Core.List.{◌++◌}
use Prim.Native.Nat.{ℕ, suc, ◌+◌, ◌-◌, ◌≤◌, ◌<◌}
use native.Mathlib.Omega.{arith}
use Rattle.gate_words.specs.Choice.{masked}
use Rattle.gate_words.proofs.Writing.{room_less, wrote_as}
use Rattle.ranked_circuit.specs.Blocks.{order_size, smaller, larger, larger_if}
use Rattle.ranked_circuit.specs.Stages.{stays, cut_at}
use Rattle.ranked_circuit.proofs.StageLaws.{apart_zero, cut_most}
use Rattle.ranked_blocks.specs.Ranked.{kept_of}
use Rattle.ranked_blocks.proofs.Entering.{apart_later, new_zero, new_first, new_later, long_zero, long_first, long_later}
use Rattle.ranked_blocks.proofs.entries.new_word.Goals as goal
use Rattle.ranked_blocks.proofs.entries.new_word.Goals.{After-cut_at-cut, Start}

abbrev cut_of : Start → ℕ
cut_of s = cut_at s.args.p.candidates s.args.p.digits s.args.m s.args.i s.args.j

within : (s : Start) → cut_of s ≤ s.args.p.digits
within s = cut_most s.args.p.candidates s.args.p.digits s.args.m s.args.i s.args.j

-- blocks are equal if the wires that they are
zero_same : (f v w f' v' : ℕ) → f ≡ f' → v ≡ v' → masked f v (w + 1) ≡ masked f' v' (w + 1)
zero_same f v w f' v' ef ev = rw (ef, ev)

first_same : (at f v x y w h f' v' x' y' h' : ℕ) → f ≡ f' → v ≡ v' → x ≡ x' → y ≡ y' → h ≡ h' →
    smaller at x y w h ++ larger_if (at + order_size w h + suc w) f v (at + order_size w h) w h ≡ smaller at x' y' w h'
    ++ larger_if (at + order_size w h' + suc w) f' v' (at + order_size w h') w h'
first_same at f v x y w h f' v' x' y' h' ef ev ex ey eh = rw (ef, ev, ex, ey, eh)

later_same : (at v x y w h v' x' y' h' : ℕ) → v ≡ v' → x ≡ x' → y ≡ y' → h ≡ h' →
    smaller at x y w h ++ larger (at + order_size w h + suc w) v (at + order_size w h) w h ≡ smaller at x' y' w h'
    ++ larger (at + order_size w h' + suc w) v' (at + order_size w h') w h'
later_same at v x y w h v' x' y' h' ev ex ey eh = rw (ev, ex, ey, eh)

-- a link's strength
pub masked-requires : goal.masked-requires
masked-requires c = let a = c.args in
    let k = a.p.candidates in
    let ne : a.i ≢ a.j = apart_zero a.i a.j (ap (λ (x : ℕ). stays x a.i a.j) (sym c.if-m-eq0.true) ∙ c.requires.moves) in
    record {
      room = room_less a.w _ _ (omega (
        arith,
        long_zero (kept_of a.links.now k) (kept_of a.words.now k) a.p.digits (cut_at a.p.candidates a.p.digits a.m a.i a.j) a.w.wire
            a.i a.j (within (goal.at.masked-requires c).Start) a.m c.if-m-eq0.true,
      )) c.requires.room;
      below = omega (arith, c.requires.kept.below a.i a.j c.requires.row c.requires.column ne, c.kept-word.ensures);
    }

pub returns-then-m-eq0 : goal.returns-then-m-eq0
returns-then-m-eq0 c = let a = c.args in
    let k = a.p.candidates in
    wrote_as a.w a.table.now _ _ c.masked.new.table c.masked.result
    (zero_same c.kept-link.result c.kept-word.result a.p.digits (kept_of a.links.now k a.i a.j)
    (kept_of a.words.now k a.i a.j) c.kept-link.ensures c.kept-word.ensures
    ∙ new_zero (kept_of a.links.now k) (kept_of a.words.now k) a.p.digits
    (cut_of (goal.at.returns-then-m-eq0 c).Start) a.w.wire a.i
    a.j a.m c.if-m-eq0.true) c.masked.ensures

-- the words that are end before the writer's wire

pub record Read (w : ℕ) (digits v x y cut : ℕ) : Type 0 where
  pub word : v + suc digits ≤ w
  pub to : x + suc digits ≤ w
  pub from : y + suc digits ≤ w
  pub most : cut ≤ digits

below : (c : After-cut_at-cut)
    → Read c.args.w.wire c.args.p.digits c.kept-word.result
    c.kept-to.result c.kept-from.result c.cut_at-cut.result
below c =
    let a = c.args in
    let p = apart_later a.m a.i a.j c.if-m-eq0.false c.requires.moves in
    let b = c.requires.kept.below in
    let m = c.requires.stage in
    let over : a.m - 1 < a.p.candidates = omega (arith, c.requires.kept.ranked.k_least) in
    record {
      word = omega (arith, b a.i a.j c.requires.row c.requires.column p.2, c.kept-word.ensures);
      to = omega (arith, b a.i (a.m - 1) c.requires.row over p.0, c.kept-to.ensures);
      from = omega (
        arith,
        b (a.m - 1) a.j over c.requires.column (λ z. p.1 (sym z)),
        c.kept-from.ensures,
      );
      most = omega (arith, c.cut_at-cut.ensures, cut_most a.p.candidates a.p.digits a.m a.i a.j);
    }

pub link_or_way-requires : goal.link_or_way-requires
link_or_way-requires c = let a = c.args in
    let k = a.p.candidates in
    let b = below (goal.at.link_or_way-requires c).After-cut_at-cut in
    record {
      room = room_less a.w _ _ (omega (
        arith,
        long_first (kept_of a.links.now k) (kept_of a.words.now k) a.p.digits
            (cut_of (goal.at.link_or_way-requires c).Start) a.w.wire
            a.i a.j (within (goal.at.link_or_way-requires c).Start) a.m c.if-m-eq1.true,
        c.cut_at-cut.ensures,
      )) c.requires.room;
      word_below = b.word;
      to_below = b.to;
      from_below = b.from;
      within = b.most;
    }

pub returns-then-m-eq1 : goal.returns-then-m-eq1
returns-then-m-eq1 c = let a = c.args in
    let k = a.p.candidates in
    let words = kept_of a.words.now k in
    wrote_as a.w a.table.now _ _ c.link_or_way.new.table c.link_or_way.result
    (first_same a.w.wire c.kept-link.result c.kept-word.result c.kept-to.result
    c.kept-from.result a.p.digits c.cut_at-cut.result (kept_of a.links.now k a.i a.j)
    (words a.i a.j) (words a.i (a.m - 1)) (words (a.m - 1) a.j)
    (cut_of (goal.at.returns-then-m-eq1 c).Start)
    c.kept-link.ensures c.kept-word.ensures c.kept-to.ensures c.kept-from.ensures c.cut_at-cut.ensures
    ∙ new_first (kept_of a.links.now k) words a.p.digits
    (cut_of (goal.at.returns-then-m-eq1 c).Start) a.w.wire a.i a.j a.m
    c.if-m-eq1.true) c.link_or_way.ensures

pub path_or_way-requires : goal.path_or_way-requires
path_or_way-requires c = let a = c.args in
    let k = a.p.candidates in
    let b = below (goal.at.path_or_way-requires c).After-cut_at-cut in
    record {
      room = room_less a.w _ _ (omega (
        arith,
        long_later (kept_of a.links.now k) (kept_of a.words.now k) a.p.digits
            (cut_of (goal.at.path_or_way-requires c).Start) a.w.wire
            a.i a.j (within (goal.at.path_or_way-requires c).Start) a.m c.if-m-eq0.false c.if-m-eq1.false,
        c.cut_at-cut.ensures,
      )) c.requires.room;
      word_below = b.word;
      to_below = b.to;
      from_below = b.from;
      within = b.most;
    }

pub returns : goal.returns
returns c = let a = c.args in
    let k = a.p.candidates in
    let words = kept_of a.words.now k in
    wrote_as a.w a.table.now _ _ c.path_or_way.new.table c.path_or_way.result
    (later_same a.w.wire c.kept-word.result c.kept-to.result c.kept-from.result
    a.p.digits c.cut_at-cut.result (words a.i a.j) (words a.i (a.m - 1)) (words (a.m - 1) a.j)
    (cut_of (goal.at.returns c).Start)
    c.kept-word.ensures c.kept-to.ensures c.kept-from.ensures c.cut_at-cut.ensures
    ∙ new_later (kept_of a.links.now k) words a.p.digits
    (cut_of (goal.at.returns c).Start) a.w.wire a.i a.j a.m
    c.if-m-eq0.false c.if-m-eq1.false) c.path_or_way.ensures

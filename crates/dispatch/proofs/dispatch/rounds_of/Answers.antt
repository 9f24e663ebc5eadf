-- `dispatch::dispatch::rounds_of` meets its contract: a turn puts the next jury's number, G / S rounded up.
use Rattle.std.proofs.Common.{◌≡◌, refl, sym, ap, subst, List, [], ℕ, suc, ◌+◌, ◌≤◌, ◌<◌, length, get_or, set, drop, drop-cons, drop_of_length-le, replicate, add-one, arith}
use Rattle.dispatch_rounds.specs.declared.header.JuryHeader.{JuryHeader}
use Rattle.dispatch_rounds.specs.Tables.{Tables, remaining}
use Rattle.dispatch_rounds.specs.Rounds.{eight_of}
use Rattle.dispatch_rounds.proofs.Pieces.{Upto, upto_start, upto_end, one_of, upto_set, eight_zeros}
use Rattle.dispatch_rounds.proofs.MidRound.{padding}
use Rattle.dispatch_rounds.proofs.Turns.{blank}
use Rattle.dispatch.proofs.Whole.{ceil_is}
use Rattle.dispatch.proofs.dispatch.rounds_of.Invariants.{unknown, rate}
use Rattle.dispatch.proofs.dispatch.rounds_of.Goals as goal

-- the numbers so far, before jury j's
abbrev SoFar : ℕ → List JuryHeader → List JuryHeader → Tables → ℕ → List ℕ → Tables → Type 0
SoFar gates_per_round ss left u j rounds t =
    Upto (one_of unknown) (one_of (rate gates_per_round)) (padding ss) left u j rounds (eight_of (rate gates_per_round) ss t)

begin : (gates_per_round : ℕ) (ss : List JuryHeader) (t : Tables) → length ss ≤ 8 → SoFar gates_per_round ss ss t 0 (replicate 8 0) t
unfolding eight_of
begin gates_per_round ss t few = upto_start (one_of unknown) (one_of (rate gates_per_round)) (padding ss) ss t (replicate 8 0)
    (sym (eight_zeros unknown (λ (s : JuryHeader) (p : Tables). refl) ss t few))

next : (gates_per_round : ℕ) (ss : List JuryHeader) (j n : ℕ) (rounds : List ℕ) (u t : Tables) → j < length ss
    → n ≡ rate gates_per_round (get_or ss j blank) u → SoFar gates_per_round ss (drop j ss) u j rounds t
    → SoFar gates_per_round ss (drop (j + 1) ss) (remaining (get_or ss j blank) u) (j + 1) (set rounds j n) t
next gates_per_round ss j n rounds u t h e so =
    let x = get_or ss j blank in
    let final = eight_of (rate gates_per_round) ss t in
    subst (λ (left : List JuryHeader). Upto (one_of unknown) (one_of (rate gates_per_round)) (padding ss) left
    (remaining x u) (j + 1) (set rounds j n) final)
    (ap (λ (i : ℕ). drop i ss) (sym (add-one j)))
    (upto_set unknown (rate gates_per_round) (padding ss) x (drop (suc j) ss) u j rounds final
    (subst (λ (left : List JuryHeader). Upto (one_of unknown) (one_of (rate gates_per_round)) (padding ss) left u j rounds final)
    (drop-cons ss j blank h) so) n e)

pub loop-j-init : goal.loop-j-init
loop-j-init c = λ (t : Tables). (t, begin c.args.gates_per_round c.args.headers.now t c.requires.few)

pub loop-j-preserved : goal.loop-j-preserved
loop-j-preserved c = λ (t : Tables).
    let ss = c.args.headers.now in
    let j = c.loop-j.j in
    let u = c.loop-j.invariant t in (
      remaining (get_or ss j blank) u.0,
      next c.args.gates_per_round ss j c.div_ceil.result c.loop-j.rounds u.0 t c.loop-j-test.true
          (ceil_is (get_or ss j blank).gates c.args.gates_per_round c.div_ceil.result c.requires.per_round_least c.div_ceil.ensures) u.1,
    )

pub returns : goal.returns
returns c = λ (t : Tables).
    let ss = c.args.headers.now in
    let j = c.loop-j.j in
    let none_left : drop j ss ≡ [] = drop_of_length-le ss {i = j} (omega arith) in
    let u = c.loop-j.invariant t in
    upto_end (one_of unknown) (one_of (rate c.args.gates_per_round)) (padding ss) u.0 j c.loop-j.rounds
    (eight_of (rate c.args.gates_per_round) ss t)
    (subst (λ (left : List JuryHeader). SoFar c.args.gates_per_round ss left u.0 j c.loop-j.rounds t) none_left u.1)

-- The demands on a run alone, from those on every kind of call and the laws of runs.
-- Assumes nothing.
use mathlib.Core.Path.{◌≡◌, ◌∙◌, sym, ap, subst}
use mathlib.Core.List.{List}
use Prim.Native.Nat.{ℕ, ◌+◌, ◌-◌}
use native.Mathlib.Nat.{add-zero}
use native.Mathlib.Omega.{arith}
use lib.Dec.{ltb}
use lib.ListN.{length, get_or, drop}
use lib.Seq.{get_or-drop}
use borrow.Author.Tests.{ltb-true, ltb-false}
use Rattle.basics.proofs.Flags.{either}
use Rattle.gates.specs.Gate.{gates_of}
use Rattle.gates.specs.Wires.{wires_of, outputs_of}
use Rattle.gates.specs.Board.{conditional_count, Bits}
use Rattle.gates.proofs.Evaluating.{accepted_list}
use Rattle.gates.proofs.Laws.{AllGood, all_good, wires_bits, wire_bit, output_is}
use Rattle.jury.specs.declared.shape.Shape.{Shape}
use Rattle.jury.specs.Shape.{ballot_bytes}
use Rattle.tally.specs.Answer.{accepted, Size, size_of}
use Rattle.tally.specs.Run.{run_result}
use Rattle.tally.specs.RunAlone.{RunHidesBallots, OldContentsIgnored, TapeIgnored, RunBits, RunAlone}
use Rattle.tally.proofs.RunReasons.{RunPassed, run_passed}
use Rattle.tally.proofs.Hiding.{ran_accepted, run_board_lem, run_closing, run_finished, same_buffers, board_tells_no_more}
use Rattle.tally.proofs.Demands.{three_demands}

-- an accepted run has passed its tests
passed : (s : Shape) (list ballots tape wires board : List ℕ) (size : Size)
    → (run_result s list ballots tape wires board).answer ≡ accepted size → RunPassed s list ballots tape wires board
passed s list ballots tape wires board size e = run_passed s list ballots tape wires board (ran_accepted s list ballots wires board tape size e).0

hides : RunHidesBallots
hides s list xs t vs bs ys u ws ds size other e f same =
    let h = (board_tells_no_more s list xs ys t u vs ws bs ds size other e f same).2 in
    let m = (passed s list xs t vs bs size e).mask in
    let one = h.same_board t m in (
      one.0,
      (h.second_answer one.0 one.1.0 ∙ sym (h.first_answer t m), sym one.1.1),
      λ (y : List ℕ) p. one.2 y ((passed s list ys y ws ds size (p.0 ∙ e)).mask, sym p.1),
    )

old_contents : OldContentsIgnored
old_contents s list xs t vs bs ws ds size e w b =
    let p = passed s list xs t vs bs size e in
    same_buffers s list xs vs bs t p t p.mask ws ds w b ∙ sym (run_board_lem s list xs vs bs t p t p.mask)

any_tape : TapeIgnored
any_tape s list xs t vs bs u ws ds size other e f =
    let p = passed s list xs t vs bs size e in
    let q = passed s list xs u ws ds other f in
    run_closing s list xs vs bs t p t p.mask ∙ sym (run_closing s list xs ws ds u q u q.mask)

module _ (s : Shape) (list xs t vs bs : List ℕ) (p : RunPassed s list xs t vs bs) where
  wires_are : Bits (wires_of xs (gates_of list))
  wires_are =
      let size = size_of (gates_of list) in
      let f = accepted_list (ballot_bytes s) s.candidates list size.gates size.conditional p.test.tests in
      let n : ballot_bytes s + 0 ≡ length xs = add-zero (ballot_bytes s) ∙ sym p.ballots_passed.size in
      wires_bits xs (gates_of list) (subst (λ (m : ℕ). AllGood m (gates_of list)) n (all_good (ballot_bytes s) 0 (gates_of list) f.good))
      p.ballots_passed.bits

  outputs_are : Bits (outputs_of s.candidates (wires_of xs (gates_of list)))
  outputs_are i =
      let ws = wires_of xs (gates_of list) in
      omega (arith, output_is s.candidates ws i, wire_bit ws wires_are (length ws - s.candidates + i))

  board_is : Bits (run_result s list xs t vs bs).board
  board_is i =
      let b = (run_result s list xs t vs bs).board in
      let c = conditional_count (gates_of list) in
      let f = run_finished s list xs vs bs t p t p.mask in
      either (ltb i c)
      (λ h. let shown = f.shown i (ltb-true i c h) in omega arith)
      (λ h. let far = ltb-false i c h in
      let at : c + (i - c) ≡ i = omega arith in
      let same : get_or (drop c b) (i - c) 0 ≡ get_or b i 0 = get_or-drop c b (i - c) 0 ∙ ap (λ (m : ℕ). get_or b m 0) at in
      let output = ap (λ (l : List ℕ). get_or l (i - c) 0) f.closing in
      omega (arith, same, output, outputs_are (i - c)))

  bits : RunBits s list xs t vs bs
  bits =
      record {
        wire_values = wires_are;
        board_bytes = board_is;
        closing_bytes = subst Bits (sym (run_closing s list xs vs bs t p t p.mask)) outputs_are;
      }

pub run_alone : RunAlone
run_alone =
    record {
      says_who_wins = λ s table written ballots tape wires board answer w e.
          let a = three_demands.accuracy s table written w in
          (a.says_who_wins ballots tape wires board answer e, a.plain ballots tape wires board answer e);
      hides_ballots = hides;
      old_contents = old_contents;
      any_tape = any_tape;
      bits = λ s list xs t vs bs size e. bits s list xs t vs bs (passed s list xs t vs bs size e);
    }

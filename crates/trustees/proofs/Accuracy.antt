-- The parts of an accepted call add up to the plain wires, and its sums are the closing bytes.
-- Assumes nothing.
use mathlib.Core.Path.{◌≡◌, ◌∙◌, refl, sym, ap, subst}
use mathlib.Core.Option.{Option, none, some}
use mathlib.Core.List.{List}
use Prim.Native.Nat.{ℕ, ◌+◌, ◌-◌, ◌≤◌, ◌<◌}
use native.Mathlib.Nat.{add-zero}
use native.Mathlib.Omega.{arith}
use lib.ListN.{length, get_or}
use lib.Seq.{get_or-drop}
use Rattle.gates.specs.Gate.{Gate, gates_of}
use Rattle.gates.specs.Wires.{wire, wires_of, outputs_of}
use Rattle.gates.specs.Board.{Bits}
use Rattle.gates.proofs.Laws.{AllGood, all_good, wires_hold, wires_start, wires_bits, wire_bit, output_is, length_outputs}
use Rattle.gates.proofs.WireLaws.{length_wires}
use Rattle.jury.specs.Reason.{Reason, first_of}
use Rattle.jury.specs.ClosingBytes.{eight_bytes}
use Rattle.basics.proofs.Tabulate.{tabulate_cong, tabulate_get_d}
use Rattle.tally.specs.Answer.{accepted, Size, size_of}
use Rattle.tally.specs.SaysWhoWins.{SaysWhoWins}
use Rattle.tally.specs.Count.{plain_closing}
use Rattle.tally.specs.Demands.{list_in}
use Rattle.tally.proofs.TestReasons.{never}
use Rattle.tally.proofs.RunReasons.{run_passed}
use Rattle.tally.proofs.Hiding.{ran_accepted, run_closing}
use Rattle.tally.proofs.PlainFacts.{plain_accepted, plain_says}
use Rattle.tally.proofs.OwnList.{own_list_holds}
use Rattle.tally.proofs.Writing as writing
use Rattle.trustee_shares.specs.Shares.{opened, part}
use Rattle.trustee_shares.specs.Views.{Dealing, GoodDealing, ballots_of, triples_of, wire_parts_of, closing_parts}
use Rattle.trustee_shares.proofs.Accuracy.{Split, opened_same, parts_split}
use Rattle.trustee_shares.proofs.Tables.{length_piece}
use Rattle.trustees.specs.Call.{Call, wire_parts_in}
use Rattle.trustees.specs.Reasons.{trustees_reasons}
use Rattle.trustees.specs.Result.{closing_sums, TrusteesResult, trustees_result_after, trustees_result}
use Rattle.trustees.specs.Demands.{in_one_call, WayAccuracy, OwnListAccuracy}
use Rattle.trustees.proofs.Reasons.{CallPassed, call_passed, call_passed_back, result_by, passed_dealing}
use Rattle.trustees.proofs.Sums.{Ready, call_ready}

-- the parts of all wires add up
wires_split : (t : ℕ) (gs : List Gate) (xs : List ℕ) (d : Dealing) → 1 ≤ t → AllGood (length xs) gs → Bits xs → GoodDealing t gs xs d
    → Split t (wire (wires_of xs gs)) (wire_parts_of t (length xs) gs d) (length xs + length gs)
unfolding wire_parts_of ballots_of
wires_split t gs xs d least good bits g =
    parts_split t least (triples_of gs d) (wire (wires_of xs gs))
    (wire_bit (wires_of xs gs) (wires_bits xs gs good bits)) (length xs) 0 gs (ballots_of (length xs) d) good
    (wires_hold xs gs good)
    (λ (j : ℕ) l h. g.products j (omega arith))
    (record {
      sizes = λ (p : ℕ) h. length_piece t (length xs) d.ballot_parts p g.ballot_size h;
      sums = λ (x : ℕ) h. g.ballot_sums x h ∙ sym (wires_start xs gs x h);
    })

module _ (c : Call) where
  -- if a call answers G and C, no reason applies, and both numbers are the list's
  answered : (size : Size) (o : Option Reason) → first_of (trustees_reasons c) ≡ o
      → (trustees_result_after o c).answer ≡ accepted size
      → (first_of (trustees_reasons c) ≡ none) × (size ≡ size_of (gates_of c.table))
  unfolding trustees_result_after
  answered size none e f = (e, cc)
  answered size (some r) e f = never size r f

  pub call_accepted : (size : Size) → (trustees_result c).answer ≡ accepted size
      → (first_of (trustees_reasons c) ≡ none) × (size ≡ size_of (gates_of c.table))
  call_accepted size e =
      let o = first_of (trustees_reasons c) in
      answered size o refl (sym (ap (λ (r : TrusteesResult). r.answer) (result_by c o refl)) ∙ e)

  module _ (p : CallPassed c) where
    abbrev gs : List Gate
    gs = gates_of c.table

    ready : Ready c (size_of gs)
    ready = call_ready c (size_of gs) refl p

    pub good_list : AllGood (length c.ballots) gs
    good_list = subst (λ (n : ℕ). AllGood n gs) (add-zero (length c.ballots))
        (all_good (length c.ballots) 0 gs ready.evaluate.good)

    split : Split c.trustees (wire (wires_of c.ballots gs)) (wire_parts_in c) (length c.ballots + length gs)
    split = wires_split c.trustees gs c.ballots c.lent.dealing (omega (arith, p.parts.least)) good_list
        p.ballots_passed.bits (passed_dealing c p)

    pub outputs_long : length (outputs_of c.shape.candidates (wires_of c.ballots gs)) ≡ c.shape.candidates
    outputs_long = length_outputs c.shape.candidates (wires_of c.ballots gs)
        (omega (arith, length_wires c.ballots gs, ready.evaluate.enough))

    -- a closing bit opens to its wire
    bit_opens : (j : ℕ) → j < c.shape.candidates
        → opened c.trustees (λ q. part (closing_parts c.shape.candidates (wire_parts_in c q)) j)
        ≡ get_or (outputs_of c.shape.candidates (wires_of c.ballots gs)) j 0
    bit_opens j h =
        let k = c.shape.candidates in
        let n = length c.ballots + length gs in
        let enough = ready.evaluate.enough in
        let lw = length_wires c.ballots gs in
        opened_same c.trustees (λ q. part (closing_parts k (wire_parts_in c q)) j)
        (λ q. part (wire_parts_in c q) (n - k + j)) (λ (q : ℕ) l. at q l)
        ∙ split.sums (n - k + j) (omega arith)
        ∙ ap (λ (m : ℕ). wire (wires_of c.ballots gs) (m - k + j)) (sym lw) ∙ sym (output_is k (wires_of c.ballots gs) j)
      where
        at : (q : ℕ) → q < c.trustees → part (closing_parts c.shape.candidates (wire_parts_in c q)) j
            ≡ part (wire_parts_in c q) (length c.ballots + length gs - c.shape.candidates + j)
        at q l =
            unfold part closing_parts in
            (get_or-drop (length (wire_parts_in c q) - c.shape.candidates) (wire_parts_in c q) j 0
            ∙ ap (λ (m : ℕ). get_or (wire_parts_in c q) (m - c.shape.candidates + j) 0) (split.sizes q l))

    pub closing_is : (trustees_result c).closing ≡ eight_bytes (outputs_of c.shape.candidates (wires_of c.ballots gs))
    unfolding closing_sums
    closing_is =
        let k = c.shape.candidates in
        ap (λ (r : TrusteesResult). r.closing) (result_by c none (none_applies)) ∙ after
        ∙ ap eight_bytes (tabulate_cong k
        (λ j. opened c.trustees (λ q. part (closing_parts k (wire_parts_in c q)) j))
        (λ j. get_or (outputs_of k (wires_of c.ballots gs)) j 0) bit_opens
        ∙ tabulate_get_d (outputs_of k (wires_of c.ballots gs)) k 0 outputs_long)
      where
        none_applies : first_of (trustees_reasons c) ≡ none
        none_applies = call_passed_back c p

        after : (trustees_result_after none c).closing ≡ closing_sums c.trustees c.shape.candidates (wire_parts_in c)
        after = unfold trustees_result_after in refl

  pub accuracy : (size : Size) → (trustees_result c).answer ≡ accepted size → WayAccuracy in_one_call c size
  accuracy size e =
      let a = call_accepted size e in
      let p = call_passed c a.0 in
      record {
        own_size = a.1;
        every_wire = (split p).sums;
        last_wires = closing_is p;
        plain_run = λ tape wires board run f.
            let r = run_passed c.shape c.table c.ballots tape wires board
            (ran_accepted c.shape c.table c.ballots wires board tape run f).0 in
            closing_is p ∙ ap eight_bytes (sym (run_closing c.shape c.table c.ballots wires board tape r tape r.mask));
      }

-- a call with the list that was written for its shape
module _ (c : Call) (table : List ℕ) (size : Size) (w : writing.WritePassed c.shape table size)
    (own : c.table ≡ list_in c.shape size table) (p : CallPassed c) where
  count : (trustees_result c).closing ≡ plain_closing c.shape c.ballots
  count =
      closing_is c p
      ∙ ap (λ (gs : List Gate). eight_bytes (outputs_of c.shape.candidates (wires_of c.ballots gs)))
      (ap gates_of own ∙ writing.gates_in c.shape table size w)
      ∙ ap eight_bytes ((own_list_holds c.shape w.within).closing c.ballots p.ballots_passed)
      ∙ sym (plain_accepted c.shape c.ballots p.ballots_passed)

  pub own_list : OwnListAccuracy in_one_call c
  own_list =
      record {
        plain_count = count;
        says_who_wins = subst (SaysWhoWins c.shape c.ballots) (sym count) (plain_says c.shape c.ballots p.ballots_passed);
      }

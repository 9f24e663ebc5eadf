-- The reasons of a run on an urn: which of them is the first, and what holds if none applies.
-- Assumes nothing.
use mathlib.Core.Path.{◌≡◌, ◌∙◌, refl, sym, ap, subst}
use mathlib.Core.Logic.{⊎_elim, ◌≢◌}
use mathlib.Core.Bool.{Bool, true, false}
use mathlib.Core.Option.{Option, none, some}
use mathlib.Core.List.{List, [], ◌∷◌, ◌++◌, map}
use Prim.Native.Nat.{ℕ, ◌*◌, ◌≤◌, ◌<◌}
use native.Mathlib.Nat.{mul_assoc, mul-pos, eq_of_mul-eq-mul_right}
use native.Mathlib.Omega.{arith}
use lib.Dec.{T, eqb}
use lib.ListN.{length, take, drop, length-map, length-append, length-drop}
use lib.Seq.{take_at}
use borrow.Author.Tests.{eq-eqb, ne_eqb, eqb-true, eqb-false}
use Rattle.gates.specs.Gate.{gates_of}
use Rattle.gates.specs.Test.{first_above_one, first_bad, tested}
use Rattle.gates.specs.inner.Step.{FinishReady}
use Rattle.jury.specs.declared.shape.Shape.{Shape}
use Rattle.jury.specs.Shape.{graded_limits, within_limits, ballot_bytes}
use Rattle.jury.specs.Reason.{Reason, reason_at, unless, list_reason, first_of}
use Rattle.jury.specs.Ballots.{ballot_kind_reasons, ballot_reasons}
use Rattle.jury.specs.Accepted.{AcceptedBallots}
use Rattle.basics.proofs.Flags.{never_true, true_T}
use Rattle.jury.proofs.Limits.{within, within_back, graded_within, bytes_are}
use Rattle.jury.proofs.BallotLaws.{judged, judged_by}
use Rattle.jury.proofs.AcceptedLaws as ballots_laws
use Rattle.tally.specs.Answer.{refused, Size, size_of}
use Rattle.tally.specs.Test.{test_reasons, test_outcome}
use Rattle.tally.specs.Run.{buffer_reasons, run_reasons, run_result_after, run_result}
use Rattle.tally.proofs.TestReasons.{or_else}
use Rattle.tally.proofs.RunReasons.{first_of_three, run_first, outcome_refused, RunPassed, run_passed, run_ready, ran_by}
use Rattle.urn_chains.specs.Chains.{entry_at, ballot_slots, ballot_chain}
use Rattle.urn_chains.specs.Sound.{jury_of_one, urn_slots, sound}
use Rattle.urn_chains.proofs.Marks.{true_or_false}
use Rattle.urn_chains.proofs.SoundLayouts.{its_parts}
use Rattle.urn_run.specs.Run.{joined_ballots, chain_ballots, ballots_in, urn_run_reasons, urn_run_result}
use Rattle.urn_run.proofs.JoinedBallots.{Good, good_along, good_accepted}

-- the first reason: that of the first test, else that of the others
first_cons : (x : Option Reason) (xs : List (Option Reason)) → first_of (x ∷ xs) ≡ or_else x (first_of xs)
unfolding first_of or_else
first_cons none xs = refl
first_cons (some r) xs = refl

or_assoc : (x y z : Option Reason) → or_else x (or_else y z) ≡ or_else (or_else x y) z
unfolding or_else
or_assoc none y z = refl
or_assoc (some r) y z = refl

unfoldable pub first_on_urn : Bool → Bool → Option Reason → Option Reason → Option Reason → Option Reason
first_on_urn graded is_sound list number lent = or_else (unless graded 1) (or_else (unless is_sound 13) (or_else list (or_else number lent)))

-- facts about a graded shape
module _ (s : Shape) (g : graded_limits s ≡ true) where
  pub whole_within : within_limits s ≡ true
  whole_within = graded_within s g

  pub one_within : graded_limits (jury_of_one s.candidates s.grades) ≡ true
  unfolding jury_of_one
  one_within =
      let w = within s g in
      within_back (jury_of_one s.candidates s.grades)
      (record {
        k_least = w.k_least;
        k_most = w.k_most;
        d_least = w.d_least;
        d_most = w.d_most;
        n_least =
            omega arith;
        n_most = omega arith;
      })

  pub one_T : T (graded_limits (jury_of_one s.candidates s.grades))
  one_T = true_T (graded_limits (jury_of_one s.candidates s.grades)) one_within

  -- the shape is within its limits, so the test of a list depends only on its gates
  pub list_first : (table : List ℕ) → first_of (test_reasons s table) ≡ list_reason (tested (ballot_bytes s) s.candidates table)
  unfolding test_reasons unless
  list_first table =
      let t = list_reason (tested (ballot_bytes s) s.candidates table) in
      ap (λ (b : Bool). first_of (unless b 1 ∷ t ∷ [])) whole_within ∙ passed t
    where
      passed : (t : Option Reason) → first_of (none ∷ t ∷ []) ≡ t
      passed none = unfold first_of in refl
      passed (some r) = unfold first_of in refl

  module _ (urn : List ℕ) (e : sound s.candidates s.grades urn ≡ true) where
    -- the ballots of a sound urn are good, and their number gives their length
    pub chain_good : Good s.candidates s.grades (ballots_in s.candidates s.grades urn)
        (chain_ballots s.candidates s.grades urn)
    unfolding chain_ballots ballots_in ballot_chain
    chain_good =
        let k = s.candidates in
        let d = s.grades in
        let S = urn_slots k d urn in
        subst (λ (m : ℕ). Good k d m (joined_ballots (map (entry_at S) (ballot_slots S)))) (sym (length-map (ballot_slots S) (entry_at S)))
        (good_along k d S (ballot_slots S) one_within (its_parts k d urn e).ballots)

    pub chain_accepted : ballots_in s.candidates s.grades urn ≡ s.ballots
        → AcceptedBallots s (chain_ballots s.candidates s.grades urn)
    chain_accepted n =
        let k = s.candidates in
        let d = s.grades in
        good_accepted s (chain_ballots k d urn) g (subst (λ (m : ℕ). Good k d m (chain_ballots k d urn)) n chain_good)

    other_length : ballots_in s.candidates s.grades urn ≢ s.ballots
        → length (chain_ballots s.candidates s.grades urn) ≢ ballot_bytes s
    other_length n q =
        let k = s.candidates in
        let d = s.grades in
        let w = within s g in
        let p : 0 < k * d = mul-pos w.k_least (omega (arith, w.d_least)) in
        n (eq_of_mul-eq-mul_right (k * d) p (ballots_in k d urn) s.ballots
        (sym chain_good.size ∙ q ∙ bytes_are s w ∙ mul_assoc s.ballots k d))

    -- so of the reasons of ballots only 4 can apply, and it applies if n is not the number of ballots
    four : (xs : List ℕ) → length xs ≢ ballot_bytes s → first_of (ballot_reasons s xs) ≡ some (reason_at 4 0)
    unfolding judged unless first_of
    four xs n = judged_by s xs false (first_above_one 0 xs) (first_of (ballot_kind_reasons s xs)) (ne_eqb (length xs) (ballot_bytes s) n) refl refl

    pub ballots_first : first_of (ballot_reasons s (chain_ballots s.candidates s.grades urn))
        ≡ unless (eqb (ballots_in s.candidates s.grades urn) s.ballots) 4
    unfolding unless
    ballots_first =
        let k = s.candidates in
        let d = s.grades in
        let m = ballots_in k d urn in
        let xs = chain_ballots k d urn in
        ⊎_elim
        (λ h. ballots_laws.accepted_back s xs (chain_accepted (eqb-true m s.ballots h)) ∙ ap (λ (t : Bool). unless t 4) (sym h))
        (λ h. four xs (other_length (eqb-false m s.ballots h)) ∙ ap (λ (t : Bool). unless t 4) (sym h))
        (true_or_false (eqb m s.ballots))

module _ (s : Shape) (table urn tape wires board : List ℕ) where
  pub urn_first : first_of (urn_run_reasons s table urn tape wires board)
      ≡ first_on_urn (graded_limits s) (sound s.candidates s.grades urn) (list_reason (tested (ballot_bytes s) s.candidates table))
      (unless (eqb (ballots_in s.candidates s.grades urn) s.ballots) 4)
      (first_of (buffer_reasons (ballot_bytes s) s.candidates (size_of (gates_of table)) tape wires board))
  unfolding urn_run_reasons first_on_urn
  urn_first = simp first_cons

  -- the first reason that applies, in each case
  pub by_1 : graded_limits s ≡ false → first_of (urn_run_reasons s table urn tape wires board) ≡ some (reason_at 1 0)
  unfolding first_on_urn or_else unless
  by_1 g = urn_first ∙ rw g

  module _ (g : graded_limits s ≡ true) where
    pub by_13 : sound s.candidates s.grades urn ≡ false → first_of (urn_run_reasons s table urn tape wires board) ≡ some (reason_at 13 0)
    unfolding first_on_urn or_else unless
    by_13 e = urn_first ∙ rw (g, e)

    module _ (e : sound s.candidates s.grades urn ≡ true) where
      pub by_list : (r : Reason) → test_outcome s table ≡ refused r → first_of (urn_run_reasons s table urn tape wires board) ≡ some r
      unfolding first_on_urn or_else unless test_outcome
      by_list r q =
          let t : list_reason (tested (ballot_bytes s) s.candidates table) ≡ some r = sym (list_first s g table)
          ∙ outcome_refused (first_of (test_reasons s table)) (size_of (gates_of table)) r q in
          urn_first ∙ rw (g, e, t)

      module _ (p : first_of (test_reasons s table) ≡ none) where
        pub by_4 : ballots_in s.candidates s.grades urn ≢ s.ballots
            → first_of (urn_run_reasons s table urn tape wires board) ≡ some (reason_at 4 0)
        unfolding first_on_urn or_else unless
        by_4 n =
            let t : list_reason (tested (ballot_bytes s) s.candidates table) ≡ none = sym (list_first s g table) ∙ p in
            urn_first ∙ rw (g, e, t, ne_eqb (ballots_in s.candidates s.grades urn) s.ballots n)

        pub by_lent : (size : Size) (o : Option Reason) → size ≡ size_of (gates_of table)
            → ballots_in s.candidates s.grades urn ≡ s.ballots
            → first_of (buffer_reasons (ballot_bytes s) s.candidates size tape wires board) ≡ o
            → first_of (urn_run_reasons s table urn tape wires board) ≡ o
        unfolding first_on_urn or_else unless
        by_lent size o f n q =
            let t : list_reason (tested (ballot_bytes s) s.candidates table) ≡ none = sym (list_first s g table) ∙ p in
            urn_first ∙ rw (g, e, t, eq-eqb (ballots_in s.candidates s.grades urn) s.ballots n)
            (ap (λ (z : Size). first_of (buffer_reasons (ballot_bytes s) s.candidates z tape wires board)) (sym f) ∙ q)

      -- the reasons are those of the run on the ballots of the chain
      pub same_reasons : first_of (urn_run_reasons s table urn tape wires board)
          ≡ first_of (run_reasons s table (chain_ballots s.candidates s.grades urn) tape wires board)
      same_reasons =
          let lent = first_of (buffer_reasons (ballot_bytes s) s.candidates (size_of (gates_of table)) tape wires board) in
          urn_first ∙ opened (list_reason (tested (ballot_bytes s) s.candidates table)) _ lent
          ∙ ap (λ (o : Option Reason). first_of_three o
          (unless (eqb (ballots_in s.candidates s.grades urn) s.ballots) 4) lent)
          (sym (list_first s g table))
          ∙ ap (λ (o : Option Reason). first_of_three (first_of (test_reasons s table)) o lent) (sym (ballots_first s g urn e))
          ∙ sym (run_first s table (chain_ballots s.candidates s.grades urn) tape wires board)
        where
          opened : (list number lent : Option Reason)
              → first_on_urn (graded_limits s) (sound s.candidates s.grades urn) list number lent
              ≡ first_of_three list number lent
          opened list number lent = unfold first_on_urn first_of_three or_else unless in (rw (g, e) (unfold or_else in or_assoc list number lent))

      pub same_run : urn_run_result s table urn tape wires board
          ≡ run_result s table (chain_ballots s.candidates s.grades urn) tape wires board
      unfolding urn_run_result
      same_run =
          let xs = chain_ballots s.candidates s.grades urn in
          let o = first_of (run_reasons s table xs tape wires board) in
          ap (λ (r : Option Reason). run_result_after r s (gates_of table) xs tape wires board) same_reasons
          ∙ sym (ran_by s table xs tape wires board o refl)

  -- what a call leaves, given its first reason
  pub ran_on_urn_by : (o : Option Reason) → first_of (urn_run_reasons s table urn tape wires board) ≡ o
      → urn_run_result s table urn tape wires board
      ≡ run_result_after o s (gates_of table) (chain_ballots s.candidates s.grades urn) tape wires board
  unfolding urn_run_result
  ran_on_urn_by o e = ap (λ (r : Option Reason). run_result_after r s (gates_of table)
      (chain_ballots s.candidates s.grades urn) tape wires board) e

  -- the tests that an accepted run on an urn has passed, as facts
  pub record UrnRunPassed : Type 0 where
    pub graded : graded_limits s ≡ true
    pub is_sound : sound s.candidates s.grades urn ≡ true
    pub run : RunPassed s table (chain_ballots s.candidates s.grades urn) tape wires board

  pub urn_run_passed : first_of (urn_run_reasons s table urn tape wires board) ≡ none → UrnRunPassed
  urn_run_passed e = shape (graded_limits s) refl
    where
      no : {A : Type 0} (r : Reason) → first_of (urn_run_reasons s table urn tape wires board) ≡ some r → A
      no r q = let z : none ≡ some r = sym e ∙ q in let y : ◌≡◌ {A = ℕ} 0 1 = cc in absurd (omega arith)

      inside : graded_limits s ≡ true → (b : Bool) → sound s.candidates s.grades urn ≡ b → UrnRunPassed
      inside g true f =
          record {
            graded = g;
            is_sound = f;
            run =
                run_passed s table (chain_ballots s.candidates s.grades urn) tape wires board
                (sym (same_reasons g f) ∙ e);
          }
      inside g false f = no (reason_at 13 0) (by_13 g f)

      shape : (b : Bool) → graded_limits s ≡ b → UrnRunPassed
      shape true g = inside g (sound s.candidates s.grades urn) refl
      shape false g = no (reason_at 1 0) (by_1 g)

  module _ (p : UrnRunPassed) where
    -- the ballots are as long as the list has inputs, and fit into the wire table
    pub chain_length : length (chain_ballots s.candidates s.grades urn) ≡ ballot_bytes s
    chain_length = p.run.ballots_passed.size

    pub chain_room : length (chain_ballots s.candidates s.grades urn) ≤ length wires
    chain_room = omega (arith, chain_length, p.run.wires_length)

    -- after the ballots are loaded, the evaluation has what it requires
    pub finish_ready : (loaded : List ℕ) → length loaded ≡ length wires
        → FinishReady (ballot_bytes s) table s.candidates tape loaded board
    finish_ready loaded l =
        let f = run_ready s table (chain_ballots s.candidates s.grades urn) tape wires board p.run in
        record {
          enough = f.enough;
          good = ap (λ (i : ℕ). first_bad i 0 (gates_of table)) (sym chain_length) ∙ f.good;
          tape_length = f.tape_length;
          wires_length = l ∙ p.run.wires_length;
          board_length = f.board_length;
        }

    pub loaded_front : (loaded : List ℕ) → loaded ≡ chain_ballots s.candidates s.grades urn
        ++ drop (length (chain_ballots s.candidates s.grades urn)) wires
        → take (ballot_bytes s) loaded ≡ chain_ballots s.candidates s.grades urn
    loaded_front loaded q =
        let xs = chain_ballots s.candidates s.grades urn in
        ap (take (ballot_bytes s)) q ∙ take_at xs (drop (length xs) wires) (ballot_bytes s) chain_length

    pub loaded_length : (loaded : List ℕ) → loaded ≡ chain_ballots s.candidates s.grades urn
        ++ drop (length (chain_ballots s.candidates s.grades urn)) wires → length loaded ≡ length wires
    loaded_length loaded q =
        let xs = chain_ballots s.candidates s.grades urn in
        omega (arith, ap length q, length-append xs (drop (length xs) wires), length-drop (length xs) wires, chain_room)

-- a shape outside the limits gives 1, and nothing changes
pub outside_urn_run : (s : Shape) → within_limits s ≡ false → (table urn tape wires board : List ℕ)
    → urn_run_result s table urn tape wires board ≡ record { answer = refused (reason_at 1 0); wires = wires; board = board }
unfolding run_result_after
outside_urn_run s w table urn tape wires board =
    let graded : graded_limits s ≡ false =
    never_true (graded_limits s) (λ g. let z : ◌≡◌ {A = Bool} true false = sym (graded_within s g) ∙ w in
    let y : ◌≡◌ {A = ℕ} 0 1 = cc in omega arith) in
    ran_on_urn_by s table urn tape wires board (some (reason_at 1 0)) (by_1 s table urn tape wires board graded)

-- A raised grade improves the candidate's counts and does not change the others' counts, so a winner still wins.
-- Assumes nothing.
use mathlib.Core.Path.{◌≡◌, ◌∙◌, refl, sym, ap}
use mathlib.Core.Logic.{◌⊎◌, inl, inr, ⊎_elim, ◌≢◌}
use mathlib.Core.List.{List, []}
use Prim.Native.Nat.{ℕ, zero, suc, ◌+◌, ◌*◌, ◌≤◌, ◌<◌}
use native.Mathlib.Omega.{arith}
use lib.ListN.{length, get_or, drop}
use lib.Seq.{get_or-drop}
use Rattle.jury.specs.declared.shape.Shape.{Shape}
use Rattle.basics.specs.Lists.{sum, tabulate}
use Rattle.jury.specs.Counts.{byte_of, count_up_to, count_of, counts_of}
use Rattle.jury.specs.Accepted.{GradedBallots}
use Rattle.basics.proofs.Cases.{below_or_not, same_or_not}
use Rattle.basics.proofs.Tabulate.{tabulate_cong, take_tabulate, length_tabulate}
use Rattle.jury.proofs.Sums.{addend, sum_ones}
use Rattle.basics.proofs.Sums.{sum_last, sum_add}
use Rattle.jury.proofs.CountLaws.{bit_added, count_step}
use Rattle.jury.proofs.CountFacts.{counts_length, counts_row, counts_sum}
use Rattle.rule_judgment.proofs.RunningSums.{running_whole, running_most}
use Rattle.rule_judgment.specs.Raised.{Raised, NothingLost, byte_for, LikedMore, StillAlone}
use Rattle.rule_judgment.specs.Raised.RaisedOften.{unchanged, once_more}
use Rattle.rule_judgment.proofs.Statements.{running}
use Rattle.rule_judgment.proofs.Improved.{Improved, OneImproved, still_wins, still_loses}
use Rattle.basics.proofs.Arithmetic.{row_within}

-- the first t of a table's entries add up to no more than the first u
sum_grows : (t u : ℕ) (f : ℕ → ℕ) → t ≤ u → sum (tabulate t f) ≤ sum (tabulate u f)
sum_grows t u f l = omega (arith, running_most (tabulate u f) t, ap sum (take_tabulate t u f l))

-- moving a single 1 to an earlier entry makes no sum of first entries smaller
earlier_one : (d from to : ℕ) (f h : ℕ → ℕ) → to < from → from < d → f from ≡ 1 → h to ≡ 1 → sum (tabulate d f) ≡ 1
    → (t : ℕ) → t ≤ d → sum (tabulate t f) ≤ sum (tabulate t h)
earlier_one d from to f h l m ef eh e t p = ⊎_elim past before (below_or_not from t)
  where
    past : from < t → sum (tabulate t f) ≤ sum (tabulate t h)
    past q = omega (arith, sum_grows t d f p, sum_grows (suc to) t h (omega arith), sum_last to h)

    before : t ≤ from → sum (tabulate t f) ≤ sum (tabulate t h)
    before q = omega (arith, sum_grows t from f q, sum_grows (suc from) d f m, sum_last from f)

-- a row of an accepted ballot has a single 1
one_in_row : (s : Shape) (xs : List ℕ) → GradedBallots s xs → (b c : ℕ) → b < s.ballots → c < s.candidates
    → sum (tabulate s.grades (λ g. byte_of s xs b c g)) ≡ 1
unfolding byte_of addend
one_in_row s xs a b c hb hc =
    ap sum
    (tabulate_cong s.grades (λ g. byte_of s xs b c g) (λ g. addend (get_or (drop (row * s.grades) xs) g 0))
    (λ g l. sym (ap addend (get_or-drop (row * s.grades) xs g 0) ∙ bit_added (byte_of s xs b c g) (a.bits (row * s.grades + g)))))
    ∙ sum_ones s.grades (drop (row * s.grades) xs)
    ∙ a.rows row (omega (arith, row_within b s.ballots s.candidates hb))
  where
    row : ℕ
    row = b * s.candidates + c

module _ (s : Shape) (candidate : ℕ) (old new : List ℕ) (r : Raised s candidate old new) where
  abbrev old_byte : ℕ → ℕ → ℕ → ℕ
  old_byte = byte_of s old

  abbrev new_byte : ℕ → ℕ → ℕ → ℕ
  new_byte = byte_of s new

  old_step : (b c g : ℕ) → count_up_to s old (suc b) c g ≡ count_up_to s old b c g + old_byte b c g
  old_step = count_step s old r.old_accepted.bits

  new_step : (b c g : ℕ) → count_up_to s new (suc b) c g ≡ count_up_to s new b c g + new_byte b c g
  new_step = count_step s new r.new_accepted.bits

  -- over ballots that agree, the counts are the same
  same_count : (c g : ℕ) → c < s.candidates → g < s.grades → (b : ℕ) → b ≤ s.ballots
      → ((i : ℕ) → i < b → (i ≢ r.ballot) ⊎ (c ≢ candidate)) → count_up_to s new b c g ≡ count_up_to s old b c g
  unfolding count_up_to
  same_count c g hc hg zero h apart = refl
  same_count c g hc hg (suc b) h apart =
      omega (
        arith,
        old_step b c g,
        new_step b c g,
        same_count c g hc hg b (omega arith) (λ i l. apart i (omega arith)),
        r.others b c g (omega arith) hc hg (apart b (omega arith)),
      )

  -- the raised candidate's counts differ by the bytes of the changed row
  raised_count : (g : ℕ) → g < s.grades → (b : ℕ) → r.ballot < b → b ≤ s.ballots
      → count_up_to s new b candidate g + old_byte r.ballot candidate g ≡ count_up_to s old b candidate g + new_byte r.ballot candidate g
  raised_count g hg zero l h = absurd (omega arith)
  raised_count g hg (suc b) l h =
      ⊎_elim
      (λ m. omega (
        arith,
        old_step b candidate g,
        new_step b candidate g,
        raised_count g hg b m (omega arith),
        r.others b candidate g (omega arith) r.a_candidate hg (inl (λ e. omega arith)),
      ))
      (λ m. last (omega arith))
      (below_or_not r.ballot b)
    where
      last : b ≡ r.ballot → count_up_to s new (suc b) candidate g + old_byte r.ballot candidate g
          ≡ count_up_to s old (suc b) candidate g + new_byte r.ballot candidate g
      last e = rw (← e) (omega (
        arith,
        old_step b candidate g,
        new_step b candidate g,
        same_count candidate g r.a_candidate hg b (omega arith) (λ i k. inl (λ f. omega arith)),
      ))

  abbrev n : ℕ
  n = s.ballots

  abbrev d : ℕ
  d = s.grades

  -- the sum of the raised candidate's first t counts is at least what it was
  first_counts : (t : ℕ) → t ≤ d → sum (tabulate t (count_of s old candidate)) ≤ sum (tabulate t (count_of s new candidate))
  unfolding count_of
  first_counts t h =
      omega (
        arith,
        ap sum
            (tabulate_cong t (λ g. count_up_to s new n candidate g + old_byte r.ballot candidate g)
            (λ g. count_up_to s old n candidate g + new_byte r.ballot candidate g)
            (λ g l. raised_count g (omega arith) n r.a_ballot (omega arith))),
        sum_add t (count_up_to s new n candidate) (λ g. old_byte r.ballot candidate g),
        sum_add t (count_up_to s old n candidate) (λ g. new_byte r.ballot candidate g),
        earlier_one d r.from r.to (λ g. old_byte r.ballot candidate g)
            (λ g. new_byte r.ballot candidate g) r.better r.a_grade r.old_grade r.new_grade
            (one_in_row s old r.old_accepted r.ballot candidate r.a_ballot r.a_candidate) t h,
      )

  count_kept : (c g : ℕ) → c < s.candidates → g < d → c ≢ candidate → count_of s new c g ≡ count_of s old c g
  unfolding count_of
  count_kept c g hc hg ne = same_count c g hc hg n (omega arith) (λ i l. inr ne)

  abbrev old_row : List ℕ
  old_row = get_or (counts_of s old) candidate []

  abbrev new_row : List ℕ
  new_row = get_or (counts_of s new) candidate []

  row_improved : Improved old_row new_row
  row_improved = record { sums = sums; more = λ t. ⊎_elim (within t) (past t) (below_or_not t d) }
    where
      sums : sum new_row ≡ sum old_row
      sums = counts_sum s new r.new_accepted candidate r.a_candidate
          ∙ sym (counts_sum s old r.old_accepted candidate r.a_candidate)

      first : (xs : List ℕ) (t : ℕ) → t ≤ d → running (get_or (counts_of s xs) candidate []) t ≡ sum (tabulate t (count_of s xs candidate))
      first xs t l = ap (λ (row : List ℕ). running row t) (counts_row s xs candidate r.a_candidate)
          ∙ ap sum (take_tabulate t d (count_of s xs candidate) l)

      size : (xs : List ℕ) → length (get_or (counts_of s xs) candidate []) ≡ d
      size xs = ap length (counts_row s xs candidate r.a_candidate) ∙ length_tabulate d (count_of s xs candidate)

      within : (t : ℕ) → t < d → running old_row t ≤ running new_row t
      within t l = omega (arith, first old t (omega arith), first new t (omega arith), first_counts t (omega arith))

      past : (t : ℕ) → d ≤ t → running old_row t ≤ running new_row t
      past t l = omega (arith, running_whole old_row t (omega (arith, size old)), running_whole new_row t (omega (arith, size new)), sums)

  one_improved : OneImproved (counts_of s old) (counts_of s new) candidate
  one_improved = record {
    size = counts_length s new ∙ sym (counts_length s old);
    candidate = omega (arith, counts_length s old, r.a_candidate);
    better = row_improved;
    others = λ c l ne. other c (omega (arith, counts_length s old)) ne;
  }
    where
      other : (c : ℕ) → c < s.candidates → c ≢ candidate → get_or (counts_of s new) c [] ≡ get_or (counts_of s old) c []
      other c l ne =
          counts_row s new c l
          ∙ tabulate_cong d (count_of s new c) (count_of s old c) (λ g h. count_kept c g l h ne)
          ∙ sym (counts_row s old c l)

  raised_once : byte_for s old candidate ≡ 1 → NothingLost s candidate old new
  raised_once wins = record {
    still_wins = winner;
    no_new_winner = λ c l loses. ⊎_elim (λ e. absurd (same c e loses))
        (λ ne. still_loses (counts_of s old) (counts_of s new) candidate one_improved wins c
        (omega (arith, counts_length s old)) ne loses) (same_or_not c candidate);
  }
    where
      winner : byte_for s new candidate ≡ 1
      winner = still_wins (counts_of s old) (counts_of s new) candidate one_improved wins

      same : (c : ℕ) → c ≡ candidate → byte_for s old c ≡ 0 → ⊥
      same c e loses = let z : byte_for s old candidate ≡ 0 = rw (← e) loses in omega arith

pub liked_more : LikedMore
liked_more s candidate old new unchanged wins = record { still_wins = wins; no_new_winner = λ c l loses. loses }
liked_more s candidate old new (once_more {xs} {ys} {zs} many r) wins = go (liked_more s candidate old ys many wins)
  where
    go : NothingLost s candidate old ys → NothingLost s candidate old new
    go past =
        let now = raised_once s candidate ys new r past.still_wins in
        record { still_wins = now.still_wins; no_new_winner = λ c l loses. now.no_new_winner c l (past.no_new_winner c l loses) }

pub still_alone : StillAlone
still_alone s candidate old new many a =
    let kept = liked_more s candidate old new many a.wins in
    record { wins = kept.still_wins; alone = λ c l ne. kept.no_new_winner c l (a.alone c l ne) }

-- Winners by Schulze's rule: the closing bytes say who wins, a Condorcet winner is the only winner, and somebody
-- wins.
-- Assumes nothing.
use mathlib.Core.Path.{◌≡◌, ◌∙◌, refl, sym, ap}
use mathlib.Core.Bool.{Bool, true, false, cond, ◌||◌}
use mathlib.Core.Logic.{⊎_elim, ◌≢◌, ◌↔◌}
use mathlib.Core.List.Memᴰ
use mathlib.Core.List.{List, [], ◌∷◌}
use Prim.Native.Nat.{ℕ, zero, suc, ◌≤◌, ◌<◌}
use native.Mathlib.Omega.{arith}
use lib.Dec.{leb, eqb}
use lib.ListN.{get_or}
use borrow.Author.Tests.{leb-true, le-leb, eqb-true, eq-eqb, lt-ltb, le-ltb}
use Rattle.basics.proofs.Cases.{same_or_not, below_or_not}
use Rattle.basics.proofs.Flags.{and_first, and_second, and_both, or_either, or_first, or_second, never_true}
use Rattle.basics.proofs.Tabulate.{get_d_tabulate}
use Rattle.rule_schulze.specs.Schulze.{link, weakest, all_candidates, wins, strongest, schulze_of}
use Rattle.rule_schulze.specs.Winner.{On, Strongest, SchulzeWinner}
use Rattle.rule_schulze.proofs.Members.{in_candidates, of_candidates}
use Rattle.basics.specs.Lists.{all}
use Rattle.rule_schulze.proofs.Paths.{Via, via_strong, direct, strongest_is, through}

-- a test holds for every member or fails for one
pub all_holds : (test : ℕ → Bool) (xs : List ℕ) → all test xs ≡ true → (x : ℕ) → On x xs → test x ≡ true
unfolding all
all_holds test [] e x m = absurd (Memᴰ.not-nil m)
all_holds test (y ∷ ys) e x m =
    ⊎_elim (λ s. ap test s ∙ and_first (test y) (all test ys) e)
    (all_holds test ys (and_second (test y) (all test ys) e) x) (Memᴰ.cases_cons m)

pub holds_all : (test : ℕ → Bool) (xs : List ℕ) → ((x : ℕ) → On x xs → test x ≡ true) → all test xs ≡ true
unfolding all
holds_all test [] h = refl
holds_all test (y ∷ ys) h = and_both (test y) (all test ys) (h y (Memᴰ.head refl))
    (holds_all test ys (λ x m. h x (Memᴰ.tail m)))

-- there is only one largest strength
pub strongest_only : (s : ℕ → ℕ → ℕ) (k i j x : ℕ) → i ≢ j → Strongest s k i j x → x ≡ strongest s k i j
strongest_only s k i j x ne a =
    let b = strongest_is s k i j ne in
    omega (
      arith,
      a.attained.2,
      b.attained.2,
      a.largest b.attained.0 b.attained.1,
      b.largest a.attained.0 a.attained.1,
    )

module _ (v : ℕ → ℕ → ℕ) (k i : ℕ) where
  -- no candidate j has a stronger path to i than i has to j
  abbrev pub Unbeaten : Type 0
  Unbeaten = (j : ℕ) → j < k → j ≢ i → strongest (link v) k j i ≤ strongest (link v) k i j

  test : ℕ → Bool
  test j = eqb j i || leb (strongest (link v) k j i) (strongest (link v) k i j)

  pub wins_unbeaten : wins v k i ≡ true → Unbeaten
  unfolding wins test
  wins_unbeaten e j h n =
      ⊎_elim (λ t. absurd (n (eqb-true j i t))) (leb-true (strongest (link v) k j i) (strongest (link v) k i j))
      (or_either (eqb j i) (leb (strongest (link v) k j i) (strongest (link v) k i j))
      (all_holds test (all_candidates k) e j (in_candidates k j h)))

  pub unbeaten_wins : Unbeaten → wins v k i ≡ true
  unfolding wins test
  unbeaten_wins u = holds_all test (all_candidates k) (λ j m. ⊎_elim (same j) (other j (of_candidates k m)) (same_or_not j i))
    where
      same : (j : ℕ) → j ≡ i → test j ≡ true
      same j e = or_first (eqb j i) (leb (strongest (link v) k j i) (strongest (link v) k i j)) (eq-eqb j i e)

      other : (j : ℕ) → j < k → j ≢ i → test j ≡ true
      other j h n = or_second (eqb j i) (leb (strongest (link v) k j i) (strongest (link v) k i j))
          (le-leb (strongest (link v) k j i) (strongest (link v) k i j) (u j h n))

  -- if some j has a stronger path to i than i has to j, then i does not win
  pub beaten_loses : (j : ℕ) → j < k → j ≢ i → strongest (link v) k i j < strongest (link v) k j i → wins v k i ≡ false
  beaten_loses j h n l = never_true (wins v k i) (λ e. let u = wins_unbeaten e j h n in omega arith)

  unbeaten_winner : Unbeaten → SchulzeWinner v k i
  unbeaten_winner u j x y h n a b =
      omega (arith, u j h n, strongest_only (link v) k i j x (λ e. n (sym e)) a, strongest_only (link v) k j i y n b)

  winner_unbeaten : SchulzeWinner v k i → Unbeaten
  winner_unbeaten w j h n =
      w j (strongest (link v) k i j) (strongest (link v) k j i) h n (strongest_is (link v) k i j (λ e. n (sym e)))
      (strongest_is (link v) k j i n)

  pub closing_at : i < k → get_or (schulze_of v k) i 0 ≡ cond (wins v k i) 1 0
  unfolding schulze_of
  closing_at h = get_d_tabulate k i (λ i. cond (wins v k i) 1 0) 0 h

  -- closing byte i is 1 exactly if i wins
  pub closing_one : i < k → (get_or (schulze_of v k) i 0 ≡ 1) ↔ SchulzeWinner v k i
  closing_one h = (
    λ e. unbeaten_winner (wins_unbeaten (go (wins v k i) refl e)),
    λ w. closing_at h
        ∙ ap (λ (t : Bool). cond {A = ℕ} t 1 0) (unbeaten_wins (winner_unbeaten w)),
  )
    where
      go : (t : Bool) → wins v k i ≡ t → get_or (schulze_of v k) i 0 ≡ 1 → wins v k i ≡ true
      go true e f = e
      go false e f = let z : ◌≡◌ {A = ℕ} 0 1 = sym (closing_at h ∙ ap (λ (t : Bool). cond {A = ℕ} t 1 0) e) ∙ f in absurd (omega arith)

-- the strength of a link is v i j if that is above v j i, else 0
pub link_won : (v : ℕ → ℕ → ℕ) (i j : ℕ) → v j i < v i j → link v i j ≡ v i j
unfolding link
link_won v i j h = rw (lt-ltb (v j i) (v i j) h)

pub link_lost : (v : ℕ → ℕ → ℕ) (i j : ℕ) → v i j ≤ v j i → link v i j ≡ 0
unfolding link
link_lost v i j h = rw (le-ltb (v j i) (v i j) h)

-- the strongest path is no weaker than the link
link_strongest : (s : ℕ → ℕ → ℕ) (k i j : ℕ) → i ≢ j → s i j ≤ strongest s k i j
unfolding weakest
link_strongest s k i j ne = (strongest_is s k i j ne).largest [] (direct k i j ne)

-- if no link leads to i, every path to i has strength 0
unreached : (s : ℕ → ℕ → ℕ) (k i T j : ℕ) (q : List ℕ) → ((x : ℕ) → x < k → x ≢ i → s x i ≡ 0) → j < k → j ≢ i
    → ((x : ℕ) → On x q → x < k) → (¬ On i q) → Via s T j q i → T ≡ 0
unreached s k i T j [] z h n b never w = let e : s j i ≡ 0 = z j h n in omega arith
unreached s k i T j (l ∷ q) z h n b never w =
    unreached s k i T l q z (b l (Memᴰ.head refl)) (λ e. never (Memᴰ.head (sym e)))
    (λ x m. b x (Memᴰ.tail m)) (λ m. never (Memᴰ.tail m)) w.1

module _ (v : ℕ → ℕ → ℕ) (k i : ℕ) (low : i < k) (preferred : (j : ℕ) → j < k → j ≢ i → v j i < v i j) where
  none_back : (j : ℕ) → j < k → j ≢ i → strongest (link v) k j i ≡ 0
  none_back j h n =
      let best = strongest_is (link v) k j i n in
      let q = best.attained.0 in
      let p = best.attained.1 in
      unreached (link v) k i (strongest (link v) k j i) j q
      (λ x l m. link_lost v x i (let w = preferred x l m in omega arith)) h n p.below p.once.1.0
      (via_strong (link v) (strongest (link v) k j i) j q i (omega (arith, best.attained.2)))

  some_forth : (j : ℕ) → j < k → j ≢ i → 0 < strongest (link v) k i j
  some_forth j h n =
      let l = preferred j h n in
      omega (arith, link_won v i j l, link_strongest (link v) k i j (λ e. n (sym e)))

  -- a Condorcet winner wins, and nobody else does
  pub condorcet : (wins v k i ≡ true) × ((j : ℕ) → j < k → j ≢ i → wins v k j ≡ false)
  condorcet = (
    unbeaten_wins v k i (λ j h n. omega (arith, none_back j h n)),
    λ j h n. beaten_loses v k j i low (λ e. n (sym e)) (omega (arith, none_back j h n, some_forth j h n)),
  )

-- a has a stronger path to b than b has to a
abbrev Beats : (ℕ → ℕ → ℕ) → ℕ → ℕ → ℕ → Type 0
Beats s k a b = strongest s k b a < strongest s k a b

pub beats_transitive : (s : ℕ → ℕ → ℕ) (k a b c : ℕ) → a < k → b < k → c < k → a ≢ b → b ≢ c → a ≢ c → Beats s k a b
    → Beats s k b c → Beats s k a c
beats_transitive s k a b c ha hb hc ab bc ac h g =
    omega (
      arith,
      through s k a b c hb ab bc ac,
      through s k b c a hc bc (λ e. ac (sym e)) (λ e. ab (sym e)),
      through s k c a b ha (λ e. ac (sym e)) ab (λ e. bc (sym e)),
    )

-- one of the first m candidates that none of them beats
record Champion (s : ℕ → ℕ → ℕ) (k m : ℕ) : Type 0 where
  who : ℕ
  low : who < m
  unbeaten : (j : ℕ) → j < m → j ≢ who → strongest s k j who ≤ strongest s k who j

champion : (s : ℕ → ℕ → ℕ) (k m : ℕ) → suc m ≤ k → Champion s k (suc m)
champion s k zero h = record { who = 0; low = omega arith; unbeaten = λ j l n. absurd (omega arith) }
champion s k (suc m) h = go (champion s k m (omega arith))
  where
    new : ℕ
    new = suc m

    go : Champion s k (suc m) → Champion s k (suc (suc m))
    go c = ⊎_elim takes keeps (below_or_not (strongest s k c.who new) (strongest s k new c.who))
      where
        old : ℕ
        old = c.who

        takes : Beats s k new old → Champion s k (suc (suc m))
        takes b = record {
          who = new;
          low = omega arith;
          unbeaten =
              λ j l n. ⊎_elim (beaten j (omega arith) n) (λ u. u)
              (below_or_not (strongest s k new j) (strongest s k j new));
        }
          where
            beaten : (j : ℕ) → j < suc m → j ≢ new → Beats s k j new → strongest s k j new ≤ strongest s k new j
            beaten j l n w = ⊎_elim (λ e. rw e (omega arith))
                (λ o. let t = beats_transitive s k j new old (omega arith) (omega arith) (omega (arith, c.low)) n
                (omega (arith, c.low)) o w b in omega (arith, c.unbeaten j l o)) (same_or_not j old)

        keeps : strongest s k new old ≤ strongest s k old new → Champion s k (suc (suc m))
        keeps b =
            record {
              who = old;
              low = omega (arith, c.low);
              unbeaten = λ j l n. ⊎_elim (λ (e : j < suc m). c.unbeaten j e n) (λ e. let z : j ≡ new = omega arith in rw z b)
                  (below_or_not j (suc m));
            }

pub somebody_wins : (v : ℕ → ℕ → ℕ) (k : ℕ) → 1 ≤ k → (i : ℕ) × (i < k) × (wins v k i ≡ true)
somebody_wins v zero h = absurd (omega arith)
somebody_wins v (suc m) h = let c = champion (link v) (suc m) m (omega arith) in
    (c.who, c.low, unbeaten_wins v (suc m) c.who c.unbeaten)

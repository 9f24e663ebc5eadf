-- The paths theorem: detours over all candidates, one after another, give the strength of the strongest simple
-- path. Strengths are compared with a threshold T: a path has at least the strength T if each of its links has.
-- Assumes nothing.
use mathlib.Core.Path.{◌≡◌, ◌∙◌, refl, sym}
use mathlib.Core.Bool.{Bool, true, false, cond, ◌||◌}
use mathlib.Core.Logic.{◌⊎◌, inl, inr, ⊎_elim, ◌≢◌}
use mathlib.Core.List.Memᴰ
use mathlib.Core.List.{List, [], ◌∷◌, ◌++◌, map, Memᴰ}
use Prim.Native.Nat.{ℕ, zero, suc, min, max, ◌≤◌, ◌<◌}
use native.Mathlib.Omega.{arith}
use lib.Dec.{eqb}
use lib.ListN.{length}
use borrow.Author.Tests.{eqb-false, ne_eqb}
use Rattle.basics.proofs.Cases.{same_or_not, below_or_not}
use Rattle.basics.proofs.Tabulate.{length_tabulate}
use Rattle.rule_schulze.specs.Schulze.{weakest, all_candidates, without, simple_paths, strongest}
use Rattle.rule_schulze.specs.Closure.{detour, closure}
use Rattle.rule_schulze.specs.Winner.{On, Distinct, EachLink, SimplePath, Strongest}
use Rattle.rule_schulze.proofs.Members.{on_or_not, in_map, of_map, in_without, of_without, without_most, in_candidates, of_candidates, of_selections, in_selections, maximum_largest, maximum_of}

module _ (s : ℕ → ℕ → ℕ) where
  abbrev pub Via : ℕ → ℕ → List ℕ → ℕ → Type 0
  Via = EachLink s

  pub via_strong : (T i : ℕ) (q : List ℕ) (j : ℕ) → T ≤ weakest s i q j → Via T i q j
  unfolding weakest
  via_strong T i [] j h = h
  via_strong T i (l ∷ q) j h = (omega arith, via_strong T l q j (omega arith))

  pub strong_via : (T i : ℕ) (q : List ℕ) (j : ℕ) → Via T i q j → T ≤ weakest s i q j
  unfolding weakest
  strong_via T i [] j h = h
  strong_via T i (l ∷ q) j h = let r = strong_via T l q j h.1 in omega (arith, h.0)

  via_less : (T U i : ℕ) (q : List ℕ) (j : ℕ) → T ≤ U → Via U i q j → Via T i q j
  via_less T U i [] j le h = omega arith
  via_less T U i (l ∷ q) j le h = (omega (arith, h.0), via_less T U l q j le h.1)

  via_join : (T i : ℕ) (q : List ℕ) (l : ℕ) (r : List ℕ) (j : ℕ) → Via T i q l → Via T l r j → Via T i (q ++ l ∷ r) j
  via_join T i [] l r j g h = (g, h)
  via_join T i (m ∷ q) l r j g h = (g.0, via_join T m q l r j g.1 h)

  -- the rest of a path after it has visited i
  record After (T i : ℕ) (q : List ℕ) (j : ℕ) : Type 0 where
    rest : List ℕ
    strong : Via T i rest j
    never : ¬ On i rest
    once : Distinct rest
    part : (x : ℕ) → On x rest → On x q

  after : (T i l : ℕ) (q : List ℕ) (j : ℕ) → On i q → Via T l q j → Distinct q → After T i q j
  after T i l [] j m h d = absurd (Memᴰ.not-nil m)
  after T i l (x ∷ q) j m h d = ⊎_elim here (λ g. later (after T i x q j g h.1 d.1)) (Memᴰ.cases_cons m)
    where
      here : i ≡ x → After T i (x ∷ q) j
      here e = record {
        rest = q;
        strong = rw e h.1;
        never = λ g. d.0 (Memᴰ.cast (sym e) g);
        once = d.1;
        part =
            λ y g. Memᴰ.tail g;
      }

      later : After T i q j → After T i (x ∷ q) j
      later a = record { rest = a.rest; strong = a.strong; never = a.never; once = a.once; part = λ y g. Memᴰ.tail (a.part y g) }

  -- a path from i to j that visits nobody twice and has at least the strength T
  pub record Direct (T k i j : ℕ) : Type 0 where
    pub between : List ℕ
    pub strong : Via T i between j
    pub simple : SimplePath k i between j

  pub shorten : (T k i : ℕ) (q : List ℕ) (j : ℕ) → i ≢ j → ((x : ℕ) → On x q → x < k) → Via T i q j → Direct T k i j
  shorten T k i [] j ne b h = record {
    between = [];
    strong = h;
    simple =
        record { below = b; once = (λ m. ne (Memᴰ.eq_of_singleton m), (Memᴰ.not-nil, tt)) };
  }
  shorten T k i (l ∷ q) j ne b h = ⊎_elim ends (λ n. go (shorten T k l q j n (λ x m. b x (Memᴰ.tail m)) h.1)) (same_or_not l j)
    where
      ends : l ≡ j → Direct T k i j
      ends e = record {
        between = [];
        strong = rw (sym e) h.0;
        simple = record {
          below = λ x m. absurd (Memᴰ.not-nil m);
          once =
              (λ m. ne (Memᴰ.eq_of_singleton m), (Memᴰ.not-nil, tt));
        };
      }

      go : Direct T k l j → Direct T k i j
      go d = ⊎_elim same (λ n. ⊎_elim back (forth n) (on_or_not i d.between)) (same_or_not i l)
        where
          once : Distinct (l ∷ j ∷ d.between)
          once = d.simple.once

          same : i ≡ l → Direct T k i j
          same e = rw e d

          back : On i d.between → Direct T k i j
          back m =
              let a = after T i l d.between j m d.strong once.1.1 in
              record {
                between = a.rest;
                strong = a.strong;
                simple = record {
                  below = λ x g. d.simple.below x (a.part x g);
                  once = (λ g. ⊎_elim ne a.never (Memᴰ.cases_cons g), (λ g. once.1.0 (a.part j g), a.once));
                };
              }

          forth : i ≢ l → (¬ On i d.between) → Direct T k i j
          forth n no' = record {
            between = l ∷ d.between;
            strong = (h.0, d.strong);
            simple = record {
              below = λ x g. ⊎_elim (λ e. b x (Memᴰ.head e)) (λ g. d.simple.below x g) (Memᴰ.cases_cons g);
              once = (
                λ g. ⊎_elim ne (λ g. ⊎_elim n no' (Memᴰ.cases_cons g)) (Memᴰ.cases_cons g),
                (
                  λ g. ⊎_elim (λ e. once.0 (Memᴰ.head (sym e))) once.1.0 (Memᴰ.cases_cons g),
                  (λ g. once.0 (Memᴰ.tail g), once.1.1),
                ),
              );
            };
          }

  -- a path over l, cut at l
  record Cut (T i l : ℕ) (q : List ℕ) (j : ℕ) : Type 0 where
    first : List ℕ
    second : List ℕ
    to : Via T i first l
    from : Via T l second j
    once_first : Distinct first
    once_second : Distinct second
    part_first : (x : ℕ) → On x first → On x q × (x ≢ l)
    part_second : (x : ℕ) → On x second → On x q × (x ≢ l)

  cut : (T i l : ℕ) (q : List ℕ) (j : ℕ) → On l q → Via T i q j → Distinct q → Cut T i l q j
  cut T i l [] j m h d = absurd (Memᴰ.not-nil m)
  cut T i l (x ∷ q) j m h d = ⊎_elim here (λ g. later g (cut T x l q j g h.1 d.1)) (Memᴰ.cases_cons m)
    where
      here : l ≡ x → Cut T i l (x ∷ q) j
      here e = record {
        first = [];
        second = q;
        to = rw e h.0;
        from = rw e h.1;
        once_first = tt;
        once_second = d.1;
        part_first = λ y g. absurd (Memᴰ.not-nil g);
        part_second = λ y g. (Memᴰ.tail g, λ s. d.0 (Memᴰ.cast (sym (s ∙ e)) g));
      }

      later : On l q → Cut T x l q j → Cut T i l (x ∷ q) j
      later m c = record {
        first = x ∷ c.first;
        second = c.second;
        to = (h.0, c.to);
        from = c.from;
        once_first = (λ g. d.0 (c.part_first x g).0, c.once_first);
        once_second = c.once_second;
        part_first =
            λ y g.
            ⊎_elim (λ e. (Memᴰ.head e, λ s. d.0 (Memᴰ.cast (sym e ∙ s) m)))
            (λ g. (Memᴰ.tail (c.part_first y g).0, (c.part_first y g).1)) (Memᴰ.cases_cons g);
        part_second = λ y g. (Memᴰ.tail (c.part_second y g).0, (c.part_second y g).1);
      }

-- `simple_paths` lists exactly the simple paths
module _ (k i j : ℕ) (ne : i ≢ j) where
  listed_simple : (q : List ℕ) → Memᴰ q (simple_paths k i j) → SimplePath k i q j
  unfolding simple_paths
  listed_simple q m =
      let r = of_selections k (without i (without j (all_candidates k))) m in
      let inner : (x : ℕ) → On x q → On x (without j (all_candidates k)) × (x ≢ i) =
      λ x g. of_without i (without j (all_candidates k)) (r.1 x g) in
      record {
        below = λ x g. of_candidates k (of_without j (all_candidates k) (inner x g).0).0;
        once = (
          λ g. ⊎_elim ne (λ h. (inner i h).1 refl) (Memᴰ.cases_cons g),
          (λ g. (of_without j (all_candidates k) (inner j g).0).1 refl, r.0),
        );
      }

  candidates_most : length (without i (without j (all_candidates k))) ≤ k
  unfolding all_candidates
  candidates_most =
      omega (arith, without_most i (without j (all_candidates k)), without_most j (all_candidates k), length_tabulate k (λ (x : ℕ). x))

  simple_listed : (q : List ℕ) → SimplePath k i q j → Memᴰ q (simple_paths k i j)
  unfolding simple_paths
  simple_listed q p =
      in_selections k (without i (without j (all_candidates k))) q candidates_most p.once.1.1
      (λ x g.
      in_without i (without j (all_candidates k))
      (in_without j (all_candidates k) (in_candidates k x (p.below x g)) (λ e. p.once.1.0 (Memᴰ.cast (sym e) g)))
      (λ e. p.once.0 (Memᴰ.tail (Memᴰ.cast (sym e) g))))

  -- the link by itself is a simple path
  pub direct : SimplePath k i [] j
  direct = record { below = λ x g. absurd (Memᴰ.not-nil g); once = (λ m. ne (Memᴰ.eq_of_singleton m), (Memᴰ.not-nil, tt)) }

-- a detour never makes a strength smaller
pub detour_more : (l : ℕ) (t : ℕ → ℕ → ℕ) (i j : ℕ) → t i j ≤ detour l t i j
unfolding detour
detour_more l t i j = go (eqb i l || eqb j l || eqb i j)
  where
    go : (b : Bool) → t i j ≤ cond b (t i j) (max (t i j) (min (t i l) (t l j)))
    go true = omega arith
    go false = omega arith

-- the detour, if i, j and l are three different candidates
pub detour_over : (l : ℕ) (t : ℕ → ℕ → ℕ) (i j : ℕ) → i ≢ l → j ≢ l → i ≢ j → detour l t i j ≡ max (t i j) (min (t i l) (t l j))
unfolding detour
detour_over l t i j a b c = rw (ne_eqb i l a, ne_eqb j l b, ne_eqb i j c)

-- the strength after a detour is the one before it, or that of the path over l
detour_cases : (l : ℕ) (t : ℕ → ℕ → ℕ) (i j : ℕ) → (detour l t i j ≡ t i j) ⊎ ((i ≢ l) × (j ≢ l) × (detour l t i j ≡ min (t i l) (t l j)))
unfolding detour
detour_cases l t i j = go (eqb i l) (eqb j l) (eqb i j) refl refl
  where
    larger : i ≢ l → j ≢ l → (max (t i j) (min (t i l) (t l j)) ≡ t i j) ⊎
        ((i ≢ l) × (j ≢ l) × (max (t i j) (min (t i l) (t l j)) ≡ min (t i l) (t l j)))
    larger a b = ⊎_elim (λ (h : t i j < min (t i l) (t l j)). inr (a, b, omega arith)) (λ h. inl (omega arith))
        (below_or_not (t i j) (min (t i l) (t l j)))

    go : (a b c : Bool) → eqb i l ≡ a → eqb j l ≡ b →
        (cond (a || b || c) (t i j) (max (t i j) (min (t i l) (t l j))) ≡ t i j)
        ⊎ ((i ≢ l) × (j ≢ l) × (cond (a || b || c) (t i j) (max (t i j) (min (t i l) (t l j))) ≡ min (t i l) (t l j)))
    go true b c e f = inl refl
    go false true c e f = inl refl
    go false false true e f = inl refl
    go false false false e f = larger (eqb-false i l e) (eqb-false j l f)

module _ (s : ℕ → ℕ → ℕ) where
  -- no simple path whose inner candidates are below l is stronger than t
  abbrev Covers : ℕ → (ℕ → ℕ → ℕ) → Type 0
  Covers l t =
      (T i : ℕ) (q : List ℕ) (j : ℕ) → i ≢ j → Via s T i q j → Distinct q → (¬ On i q) → (¬ On j q) → ((x : ℕ) → On x q → x < l) → T ≤ t i j

  covers_links : Covers 0 s
  covers_links T i [] j ne h d ni nj b = h
  covers_links T i (x ∷ q) j ne h d ni nj b = absurd (let l : x < 0 = b x (Memᴰ.head refl) in omega arith)

  covers_detour : (l : ℕ) (t : ℕ → ℕ → ℕ) → Covers l t → Covers (suc l) (detour l t)
  covers_detour l t c T i q j ne h d ni nj b = ⊎_elim over beside (on_or_not l q)
    where
      lower : (x : ℕ) → On x q → x ≢ l → x < l
      lower x m n = let u : x < suc l = b x m in omega arith

      beside : (¬ On l q) → T ≤ detour l t i j
      beside n = let low = c T i q j ne h d ni nj (λ x m. lower x m (λ e. n (Memᴰ.cast (sym e) m))) in omega (arith, detour_more l t i j)

      over : On l q → T ≤ detour l t i j
      over m =
          let p = cut s T i l q j m h d in
          let il : i ≢ l = λ e. ni (Memᴰ.cast e m) in
          let jl : j ≢ l = λ e. nj (Memᴰ.cast e m) in
          let to : T ≤ t i l =
          c T i p.first l il p.to p.once_first (λ g. ni (p.part_first i g).0)
          (λ g. (p.part_first l g).1 refl) (λ x g. lower x (p.part_first x g).0 (p.part_first x g).1) in
          let from : T ≤ t l j =
          c T l p.second j (λ e. jl (sym e)) p.from p.once_second (λ g. (p.part_second l g).1 refl)
          (λ g. nj (p.part_second j g).0) (λ x g. lower x (p.part_second x g).0 (p.part_second x g).1) in
          omega (arith, detour_over l t i j il jl ne)

  covers : (l : ℕ) → Covers l (closure l s)
  unfolding closure
  covers zero = covers_links
  covers (suc l) = covers_detour l (closure l s) (covers l)

  -- some path over candidates below k has the strength x
  record Attained (k i j x : ℕ) : Type 0 where
    between : List ℕ
    strong : Via s x i between j
    below : (y : ℕ) → On y between → y < k

  attained : (k l : ℕ) → l ≤ k → (i j : ℕ) → i ≢ j → Attained k i j (closure l s i j)
  unfolding closure
  attained k zero h i j ne = record { between = []; strong = omega arith; below = λ y g. absurd (Memᴰ.not-nil g) }
  attained k (suc l) h i j ne =
      ⊎_elim (λ e. rw e (attained k l (omega arith) i j ne))
      (λ w. rw w.2 (join (closure l s i l) (closure l s l j) (attained k l (omega arith) i l w.0)
      (attained k l (omega arith) l j (λ e. w.1 (sym e)))))
      (detour_cases l (closure l s) i j)
    where
      join : (x y : ℕ) → Attained k i l x → Attained k l j y → Attained k i j (min x y)
      join x y a b = record {
        between = a.between ++ l ∷ b.between;
        strong =
            via_join s (min x y) i a.between l b.between j (via_less s (min x y) x i a.between l (omega arith) a.strong)
            (via_less s (min x y) y l b.between j (omega arith) b.strong);
        below =
            λ z g.
            ⊎_elim (a.below z) (λ g. ⊎_elim (λ e. omega arith) (b.below z) (Memᴰ.cases_cons g))
            (Memᴰ.append_cases a.between g);
      }

  module _ (k i j : ℕ) (ne : i ≢ j) where
    -- the rule computes the strength of a strongest path
    pub strongest_is : Strongest s k i j (strongest s k i j)
    unfolding strongest
    strongest_is =
        let strength : List ℕ → ℕ = λ between. weakest s i between j in
        let paths = simple_paths k i j in
        let r = of_map strength paths (maximum_of (map strength paths) (in_map strength (simple_listed k i j ne [] (direct k i j ne)))) in
        record {
          attained = (r.0, listed_simple k i j ne r.0 r.1, sym r.2);
          largest = λ q p. maximum_largest (map strength paths) (in_map strength (simple_listed k i j ne q p));
        }

    -- the paths theorem
    pub closure_strongest : closure k s i j ≡ strongest s k i j
    closure_strongest =
        let best = strongest_is in
        let q = best.attained.0 in
        let p = best.attained.1 in
        let up : strongest s k i j ≤ closure k s i j =
        covers k (strongest s k i j) i q j ne
        (via_strong s (strongest s k i j) i q j (omega (arith, best.attained.2))) p.once.1.1
        (λ g. p.once.0 (Memᴰ.tail g)) p.once.1.0 p.below in
        let a = attained k k (omega arith) i j ne in
        let d = shorten s (closure k s i j) k i a.between j ne a.below a.strong in
        let down : closure k s i j ≤ strongest s k i j =
        omega (arith, strong_via s (closure k s i j) i d.between j d.strong, best.largest d.between d.simple) in
        omega arith

-- a path over a third candidate is no stronger than the strongest path
pub through : (s : ℕ → ℕ → ℕ) (k i l j : ℕ) → l < k → i ≢ l → l ≢ j → i ≢ j
    → min (strongest s k i l) (strongest s k l j) ≤ strongest s k i j
through s k i l j h il lj ij =
    let a = strongest_is s k i l il in
    let b = strongest_is s k l j lj in
    let T = min (strongest s k i l) (strongest s k l j) in
    let q = a.attained.0 in
    let r = b.attained.0 in
    let to = via_strong s T i q l (omega (arith, a.attained.2)) in
    let from = via_strong s T l r j (omega (arith, b.attained.2)) in
    let low : (x : ℕ) → On x (q ++ l ∷ r) → x < k =
    λ x g. ⊎_elim (a.attained.1.below x)
    (λ g. ⊎_elim (λ e. omega arith) (b.attained.1.below x) (Memᴰ.cases_cons g)) (Memᴰ.append_cases q g) in
    let d = shorten s T k i (q ++ l ∷ r) j ij low (via_join s T i q l r j to from) in
    omega (arith, strong_via s T i d.between j d.strong, (strongest_is s k i j ij).largest d.between d.simple)

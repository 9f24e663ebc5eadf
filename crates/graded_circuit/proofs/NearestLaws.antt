-- What the flags of some grades say, and which words they choose.
-- Assumes nothing.
use mathlib.Core.Path.{◌≡◌, ◌∙◌, refl, sym, ap}
use mathlib.Core.Logic.{◌⊎◌, inl, inr, ⊎_elim, ◌≢◌}
use mathlib.Core.List.{[], ◌∷◌}
use Prim.Native.Nat.{ℕ, zero, suc, ◌+◌, ◌*◌, ◌≤◌, ◌<◌}
use native.Mathlib.Nat.{suc-mul, zero-mul}
use native.Mathlib.Omega.{arith}
use Rattle.gates.proofs.Laws.{Holds}
use Rattle.basics.proofs.Cases.{below_or_not, same_or_not}
use Rattle.gate_words.specs.Gates.{and_of, xor_of}
use Rattle.gate_words.specs.Word.{number}
use Rattle.gate_words.specs.Choice.{choose}
use Rattle.gate_words.proofs.Numbers.{Binary}
use Rattle.gate_words.proofs.GateValues.{holds_first, holds_rest, and_is, xor_is}
use Rattle.gate_words.proofs.ChoiceSteps.{length_choose}
use Rattle.gate_words.proofs.ChoiceLaws.{choose_one, choose_zero}
use Rattle.gate_words.proofs.Ends.{chain_below}
use Rattle.gate_words.specs.Halves.{unequal_cut, unequal_span, unequal_at}
use Rattle.graded_circuit.specs.Nearest.{stride, side_flags, side_span, below_at, from_at, sides, either, either_span, last_words, first_words, left_end, right_end}
use Rattle.graded_circuit.proofs.Blocks.{Block, none_block, both_block, sized, gate_block, choose_block, unequal_block}
use Rattle.gate_words.proofs.HalvesLaws.{length_unequal_cut, unequal_cut_zero, unequal_cut_one}
use Rattle.graded_circuit.proofs.Cutting.{cut2}
use Rattle.basics.proofs.Arithmetic.{bit_cases}
use Rattle.basics.proofs.Arithmetic.{next_place}
use Rattle.gate_words.proofs.PointsBack.{good_and}
use Rattle.gate_words.proofs.PointsBack.{good_xor}

pub side_flags_block : (n x y r h : ℕ) → h ≤ r → x + suc (suc r) ≤ n → y + suc r ≤ n → Block n (side_flags n x y r h) (side_span r)
unfolding side_flags
side_flags_block n x y r h hr hx hy =
    let q = n + unequal_span r in
    let e = chain_below (n + suc r) n r q (omega arith) (omega arith) in
    both_block (unequal_block n x y r h hr (omega arith) (omega arith)) refl
    (gate_block (good_and q (unequal_at n r) (x + suc r) e (omega arith))
    (gate_block (good_xor (suc q) (unequal_at n r) q (omega arith) (omega arith)) (none_block (suc (suc q)))))

pub sides_block : (n x y r h t : ℕ) → h ≤ r → x + t * stride r ≤ n → y + t * stride r ≤ n → Block n (sides n x y r h t) (t * side_span r)
unfolding sides
sides_block n x y r h zero hr hx hy = sized (sym (zero-mul (side_span r))) (none_block n)
sides_block n x y r h (suc t) hr hx hy =
    let e = suc-mul t (stride r) in
    sized (omega (arith, suc-mul t (side_span r)))
    (both_block (side_flags_block n x y r h hr (omega arith) (omega arith)) refl
    (sides_block (n + side_span r) (x + stride r) (y + stride r) r h t hr (omega arith) (omega arith)))

pub either_block : (n f x y u v r : ℕ) → f < n → x + suc r ≤ n → y + suc r ≤ n → u + suc r ≤ n → v + suc r ≤ n
    → Block n (either f x y u v r) (either_span r)
unfolding either
either_block n f x y u v r hf hx hy hu hv =
    both_block (choose_block n f x u (suc r) hf hx hu) refl
    (choose_block (n + suc r) f y v (suc r) (omega arith) (omega arith) (omega arith))

pub last_of_block : (n f x y u v r t : ℕ) → f + t * side_span r < n + side_span r → x + t * stride r ≤ n → y + t
    * stride r ≤ n → u + suc r ≤ n → v + suc r ≤ n
    → Block n (last_words n f x y u v r t) (t * either_span r)
unfolding last_words
last_of_block n f x y u v r zero hf hx hy hu hv = sized (sym (zero-mul (either_span r))) (none_block n)
last_of_block n f x y u v r (suc t) hf hx hy hu hv =
    let e = suc-mul t (stride r) in
    let e' = suc-mul t (side_span r) in
    sized (omega (arith, suc-mul t (either_span r)))
    (both_block (either_block n f x y u v r (omega arith) (omega arith) (omega arith) hu hv) refl
    (last_of_block (n + either_span r) (f + side_span r) (x + stride r) (y + stride r) n (n + suc r) r t (omega arith)
    (omega arith) (omega arith) (omega arith) (omega arith)))

pub first_of_block : (n f x y u v r t : ℕ) → f + t * side_span r < n + side_span r → x + t * stride r ≤ n → y + t
    * stride r ≤ n → u + suc r ≤ n → v + suc r ≤ n
    → Block n (first_words n f x y u v r t) (t * either_span r)
unfolding first_words
first_of_block n f x y u v r zero hf hx hy hu hv = sized (sym (zero-mul (either_span r))) (none_block n)
first_of_block n f x y u v r (suc t) hf hx hy hu hv =
    let e = suc-mul t (stride r) in
    let e' = suc-mul t (side_span r) in
    sized (omega (arith, suc-mul t (either_span r)))
    (both_block (either_block n (f + t * side_span r) (x + t * stride r) (y + t * stride r) u v r (omega arith)
    (omega arith) (omega arith) hu hv) refl
    (first_of_block (n + either_span r) f x y n (n + suc r) r t (omega arith) (omega arith) (omega arith) (omega arith) (omega arith)))

pub left_below : (n u r t m : ℕ) → u + suc r ≤ m → n + t * either_span r ≤ m → left_end n u r t + suc r ≤ m
unfolding left_end
left_below n u r zero m hu h = hu
left_below n u r (suc t) m hu h = omega (arith, suc-mul t (either_span r))

pub right_below : (n v r t m : ℕ) → v + suc r ≤ m → n + t * either_span r ≤ m → right_end n v r t + suc r ≤ m
unfolding right_end
right_below n v r zero m hv h = hv
right_below n v r (suc t) m hv h = omega (arith, suc-mul t (either_span r))

left_next : (n u r t : ℕ) → left_end (n + either_span r) n r t ≡ left_end n u r (suc t)
unfolding left_end
left_next n u r zero = omega (arith, zero-mul (either_span r))
left_next n u r (suc t) = omega (arith, suc-mul t (either_span r))

right_next : (n v r t : ℕ) → right_end (n + either_span r) (n + suc r) r t ≡ right_end n v r (suc t)
unfolding right_end
right_next n v r zero = omega (arith, zero-mul (either_span r))
right_next n v r (suc t) = omega (arith, suc-mul t (either_span r))

first_place : (a d : ℕ) → a + 0 * d ≡ a
first_place a d = omega (arith, zero-mul d)

-- none of t flags is 1, and the words u and v stay
pub record Absent (F : ℕ → ℕ) (t u v left right : ℕ) : Type 0 where
  pub none : (i : ℕ) → i < t → F i ≡ 0
  pub stays_left : left ≡ u
  pub stays_right : right ≡ v

-- the last of t flags that is 1, and its grade's words
pub record LastAt (F X Y : ℕ → ℕ) (t left right : ℕ) : Type 0 where
  pub place : ℕ
  pub inside : place < t
  pub found : F place ≡ 1
  pub later : (i : ℕ) → place < i → i < t → F i ≡ 0
  pub is_left : left ≡ X place
  pub is_right : right ≡ Y place

-- the first of t flags that is 1, and its grade's words
pub record FirstAt (F X Y : ℕ → ℕ) (t left right : ℕ) : Type 0 where
  pub place : ℕ
  pub inside : place < t
  pub found : F place ≡ 1
  pub earlier : (i : ℕ) → i < place → F i ≡ 0
  pub is_left : left ≡ X place
  pub is_right : right ≡ Y place

module _ (W : ℕ → ℕ) (b : Binary W) where
  -- the number in a word of r + 1 digits
  abbrev pub spelled : ℕ → ℕ → ℕ
  spelled r at = number W at 1 (suc r)

  -- what the two flags of a grade say
  pub record Side (n x y r : ℕ) : Type 0 where
    pub below_one : W (below_at n r) ≡ 1 → (spelled r x ≢ spelled r y) × (W (x + suc r) ≡ 1)
    pub below_zero : W (below_at n r) ≡ 0 → W (x + suc r) ≡ 1 → spelled r x ≡ spelled r y
    pub from_one : W (from_at n r) ≡ 1 → (spelled r x ≢ spelled r y) × (W (x + suc r) ≡ 0)
    pub from_zero : W (from_at n r) ≡ 0 → W (x + suc r) ≡ 0 → spelled r x ≡ spelled r y

  side_flags_law : (n x y r k : ℕ) → k ≤ r → Holds W n (side_flags n x y r k) → Side n x y r
  unfolding side_flags
  side_flags_law n x y r k hr h =
      let q = n + unequal_span r in
      let e = unequal_at n r in
      let f = x + suc r in
      let tail = and_of e f ∷ xor_of e q ∷ [] in
      let c = cut2 W n (unequal_cut n x y r k) tail q (omega (arith, length_unequal_cut n x y r k hr)) h in
      let g₁ = holds_first W q (and_of e f) (xor_of e q ∷ []) c.1 ∙ and_is W b e f in
      let g₂ = holds_first W (q + 1) (xor_of e q) [] (holds_rest W q (and_of e f) (xor_of e q ∷ []) c.1) ∙ xor_is W b e q in
      ⊎_elim
      (λ (s : spelled r x ≡ spelled r y). let z = unequal_cut_zero n x y r k hr W b s c.0 in
      record {
        below_one = λ i. absurd (omega (arith, g₁, z));
        below_zero = λ i l. s;
        from_one =
            λ i. absurd (omega (arith, g₁, g₂, z));
        from_zero = λ i l. s;
      })
      (λ (s : spelled r x ≢ spelled r y). let z = unequal_cut_one n x y r k hr W b s c.0 in
      record {
        below_one = λ i. (s, omega (arith, g₁, z, b f));
        below_zero = λ i l. absurd (omega (arith, g₁, z));
        from_one = λ i. (s, omega (arith, g₁, g₂, z, b f));
        from_zero = λ i l. absurd (omega (arith, g₁, g₂, z));
      })
      (same_or_not (spelled r x) (spelled r y))

  pub sides_law : (n x y r k t : ℕ) → k ≤ r → x + t * stride r ≤ n → y + t * stride r ≤ n
      → Holds W n (sides n x y r k t) → (i : ℕ) → i < t
      → Side (n + i * side_span r) (x + i * stride r) (y + i * stride r) r
  unfolding sides
  sides_law n x y r k zero hr hx hy h i l = absurd (omega arith)
  sides_law n x y r k (suc t) hr hx hy h zero l =
      let e = suc-mul t (stride r) in
      let c = cut2 W n (side_flags n x y r k) (sides (n + side_span r) (x + stride r) (y + stride r) r k t)
      (n + side_span r) (omega (arith, (side_flags_block n x y r k hr (omega arith) (omega arith)).long)) h in
      rw (first_place n (side_span r), first_place x (stride r), first_place y (stride r)) (side_flags_law n x y r k hr c.0)
  sides_law n x y r k (suc t) hr hx hy h (suc i) l =
      let e = suc-mul t (stride r) in
      let c = cut2 W n (side_flags n x y r k) (sides (n + side_span r) (x + stride r) (y + stride r) r k t)
      (n + side_span r) (omega (arith, (side_flags_block n x y r k hr (omega arith) (omega arith)).long)) h in
      rw (← next_place n (side_span r) i, ← next_place x (stride r) i, ← next_place y (stride r) i)
      (sides_law (n + side_span r) (x + stride r) (y + stride r) r k t hr (omega arith) (omega arith) c.1 i (omega arith))

  module _ (n f x y u v r : ℕ) (h : Holds W n (either f x y u v r)) where
    cut_either : Holds W n (choose f x u (suc r)) × Holds W (n + suc r) (choose f y v (suc r))
    cut_either = cut2 W n (choose f x u (suc r)) (choose f y v (suc r)) (n + suc r)
        (omega (arith, length_choose f x u (suc r))) (unfold either in h)

    either_one : W f ≡ 1 → (spelled r n ≡ spelled r x) × (spelled r (n + suc r) ≡ spelled r y)
    either_one e = (choose_one W b n f x u (suc r) e cut_either.0, choose_one W b (n + suc r) f y v (suc r) e cut_either.1)

    either_zero : W f ≡ 0 → (spelled r n ≡ spelled r u) × (spelled r (n + suc r) ≡ spelled r v)
    either_zero e = (choose_zero W b n f x u (suc r) e cut_either.0, choose_zero W b (n + suc r) f y v (suc r) e cut_either.1)

  -- the flag and the words of grade i
  abbrev pub flag_at : ℕ → ℕ → ℕ → ℕ
  flag_at f r i = W (f + i * side_span r)

  abbrev pub word_of : ℕ → ℕ → ℕ → ℕ
  word_of x r i = spelled r (x + i * stride r)

  pub last_of_law : (n f x y u v r t : ℕ) → f + t * side_span r < n + side_span r → x + t * stride r ≤ n → y + t
      * stride r ≤ n → u + suc r ≤ n → v + suc r ≤ n
      → Holds W n (last_words n f x y u v r t)
      → Absent (flag_at f r) t (spelled r u) (spelled r v) (spelled r (left_end n u r t)) (spelled r (right_end n v r t))
      ⊎ LastAt (flag_at f r) (word_of x r) (word_of y r) t (spelled r (left_end n u r t)) (spelled r (right_end n v r t))
  unfolding last_words
  last_of_law n f x y u v r zero hf hx hy hu hv h = unfold left_end right_end in
      (inl (record { none = λ i l. absurd (omega arith); stays_left = refl; stays_right = refl }))
  last_of_law n f x y u v r (suc t) hf hx hy hu hv h =
      let n' = n + either_span r in
      let rest = last_words n' (f + side_span r) (x + stride r) (y + stride r) n (n + suc r) r t in
      let e = suc-mul t (stride r) in
      let e' = suc-mul t (side_span r) in
      let c = cut2 W n (either f x y u v r) rest n'
      (omega (arith, (either_block n f x y u v r (omega arith) (omega arith) (omega arith) hu hv).long)) h in
      let left = ap (spelled r) (left_next n u r t) in
      let right = ap (spelled r) (right_next n v r t) in
      let F : (i : ℕ) → flag_at (f + side_span r) r i ≡ flag_at f r (suc i) = λ i. ap W (next_place f (side_span r) i) in
      let first_flag = ap W (first_place f (side_span r)) in
      let first_x = ap (spelled r) (first_place x (stride r)) in
      let first_y = ap (spelled r) (first_place y (stride r)) in
      ⊎_elim
      (λ (a : Absent (flag_at (f + side_span r) r) t (spelled r n) (spelled r (n + suc r))
      (spelled r (left_end n' n r t)) (spelled r (right_end n' (n + suc r) r t))).
      ⊎_elim
      (λ (z : W f ≡ 0). let k = either_zero n f x y u v r c.0 z in
      inl (record {
        none = zeros f r t (first_flag ∙ z) (λ i l. sym (F i) ∙ a.none i l);
        stays_left = sym left
            ∙ a.stays_left ∙ k.0;
        stays_right = sym right ∙ a.stays_right ∙ k.1;
      }))
      (λ (z : W f ≡ 1). let k = either_one n f x y u v r c.0 z in
      inr (record {
        place = 0;
        inside = omega arith;
        found = first_flag ∙ z;
        later = positive f r t (λ i l. sym (F i) ∙ a.none i l);
        is_left = sym left ∙ a.stays_left ∙ k.0 ∙ sym first_x;
        is_right = sym right ∙ a.stays_right ∙ k.1 ∙ sym first_y;
      }))
      (bit_cases (W f) (b f)))
      (λ (a : LastAt (flag_at (f + side_span r) r) (word_of (x + stride r) r) (word_of (y + stride r) r) t
      (spelled r (left_end n' n r t)) (spelled r (right_end n' (n + suc r) r t))).
      inr (record {
        place = suc a.place;
        inside = omega (arith, a.inside);
        found = sym (F a.place) ∙ a.found;
        later = beyond f r t a.place (λ i l m. sym (F i) ∙ a.later i l m);
        is_left = sym left ∙ a.is_left ∙ ap (spelled r) (next_place x (stride r) a.place);
        is_right = sym right ∙ a.is_right ∙ ap (spelled r) (next_place y (stride r) a.place);
      }))
      (last_of_law n' (f + side_span r) (x + stride r) (y + stride r) n (n + suc r) r t (omega arith) (omega arith)
      (omega arith) (omega arith) (omega arith) c.1)
    where
      zeros : (f r t : ℕ) → flag_at f r 0 ≡ 0 → ((i : ℕ) → i < t → flag_at f r (suc i) ≡ 0) → (i : ℕ) → i < suc t → flag_at f r i ≡ 0
      zeros f r t z q zero l = z
      zeros f r t z q (suc i) l = q i (omega arith)

      positive : (f r t : ℕ) → ((i : ℕ) → i < t → flag_at f r (suc i) ≡ 0) → (i : ℕ) → 0 < i → i < suc t → flag_at f r i ≡ 0
      positive f r t q zero k l = absurd (omega arith)
      positive f r t q (suc i) k l = q i (omega arith)

      beyond : (f r t at : ℕ) → ((i : ℕ) → at < i → i < t → flag_at f r (suc i) ≡ 0) → (i : ℕ) → suc at < i → i < suc t → flag_at f r i ≡ 0
      beyond f r t at q zero k l = absurd (omega arith)
      beyond f r t at q (suc i) k l = q i (omega arith) (omega arith)

  pub first_of_law : (n f x y u v r t : ℕ) → f + t * side_span r < n + side_span r → x + t * stride r ≤ n → y + t
      * stride r ≤ n → u + suc r ≤ n → v + suc r ≤ n
      → Holds W n (first_words n f x y u v r t)
      → Absent (flag_at f r) t (spelled r u) (spelled r v) (spelled r (left_end n u r t)) (spelled r (right_end n v r t))
      ⊎ FirstAt (flag_at f r) (word_of x r) (word_of y r) t (spelled r (left_end n u r t)) (spelled r (right_end n v r t))
  unfolding first_words
  first_of_law n f x y u v r zero hf hx hy hu hv h = unfold left_end right_end in
      (inl (record { none = λ i l. absurd (omega arith); stays_left = refl; stays_right = refl }))
  first_of_law n f x y u v r (suc t) hf hx hy hu hv h =
      let n' = n + either_span r in
      let g = f + t * side_span r in
      let xt = x + t * stride r in
      let yt = y + t * stride r in
      let rest = first_words n' f x y n (n + suc r) r t in
      let e = suc-mul t (stride r) in
      let e' = suc-mul t (side_span r) in
      let c = cut2 W n (either g xt yt u v r) rest n'
      (omega (arith, (either_block n g xt yt u v r (omega arith) (omega arith) (omega arith) hu hv).long)) h in
      let left = ap (spelled r) (left_next n u r t) in
      let right = ap (spelled r) (right_next n v r t) in
      ⊎_elim
      (λ (a : Absent (flag_at f r) t (spelled r n) (spelled r (n + suc r)) (spelled r (left_end n' n r t)) (spelled r (right_end n' (n + suc r) r t))).
      ⊎_elim
      (λ (z : W g ≡ 0). let k = either_zero n g xt yt u v r c.0 z in
      inl (record {
        none = λ i l. ⊎_elim (λ (m : i < t). a.none i m) (λ (m : t ≤ i). let q : i ≡ t = omega arith in ap (flag_at f r) q ∙ z)
            (below_or_not i t);
        stays_left = sym left ∙ a.stays_left ∙ k.0;
        stays_right = sym right ∙ a.stays_right ∙ k.1;
      }))
      (λ (z : W g ≡ 1). let k = either_one n g xt yt u v r c.0 z in
      inr (record {
        place = t;
        inside = omega arith;
        found = z;
        earlier = a.none;
        is_left = sym left
            ∙ a.stays_left ∙ k.0;
        is_right = sym right ∙ a.stays_right ∙ k.1;
      }))
      (bit_cases (W g) (b g)))
      (λ (a : FirstAt (flag_at f r) (word_of x r) (word_of y r) t (spelled r (left_end n' n r t)) (spelled r (right_end n' (n + suc r) r t))).
      inr (record {
        place = a.place;
        inside = omega (arith, a.inside);
        found = a.found;
        earlier = a.earlier;
        is_left = sym left ∙ a.is_left;
        is_right = sym right ∙ a.is_right;
      }))
      (first_of_law n' f x y n (n + suc r) r t (omega arith) (omega arith) (omega arith) (omega arith) (omega arith) c.1)

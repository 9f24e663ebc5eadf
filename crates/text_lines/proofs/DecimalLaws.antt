-- Decimal numbers: what is written is read back, and what is read was written.
-- Assumes nothing.
use mathlib.Core.Path.{◌≡◌, ◌∙◌, refl, sym, ap, subst}
use mathlib.Core.Bool.{Bool, true, false, cond, ◌&&◌}
use mathlib.Core.Option.{none, some, some-injective, none-ne-some}
use mathlib.Core.List.{List, [], ◌∷◌, ◌++◌, append_assoc}
use Prim.Native.Nat.{ℕ, zero, suc, ◌+◌, ◌-◌, ◌*◌, ◌/◌, ◌%◌, ◌^◌, ◌≤◌, ◌<◌}
use native.Mathlib.Nat.{pow-succ', one-le-pow}
use native.Mathlib.Numerals.{add-one}
use native.Mathlib.Omega.{arith}
use lib.Dec.{leb, ltb, eqb}
use lib.ListN.{length, get_or, drop, length-append, drop_of_length-le}
use lib.Seq.{drop-cons}
use borrow.Author.Tests.{lt-ltb, le-ltb, le-leb, lt-leb, ne_eqb, ltb-true, ltb-false, leb-true, eqb-true, eqb-false}
use Rattle.text_lines.specs.Decimal.{decimal_within, decimal, is_digit, Taken, taken, digits_in, number_in}

is_digit_lem : (d : ℕ) → d < 10 → is_digit (48 + d) ≡ true
unfolding is_digit
is_digit_lem d h = rw (le-leb 48 (48 + d) (omega arith), le-leb (48 + d) 57 (omega arith))

-- these characters do not begin with a digit
abbrev pub Apart : List ℕ → Type 0
Apart [] = Unit {0}
Apart (c ∷ cs) = is_digit c ≡ false

-- reading one more digit
digits_more : (n d : ℕ) (rest : List ℕ) → d < 10 → 10 * n + d ≤ 4294967295 → digits_in n ((48 + d) ∷ rest) ≡ digits_in (10 * n + d) rest
unfolding digits_in
digits_more n d rest h fits =
    let e : 10 * n + (48 + d - 48) ≡ 10 * n + d = omega arith in
    rw (is_digit_lem d h, e, le-leb (10 * n + d) 4294967295 fits)

pub digits_end : (n : ℕ) (rest : List ℕ) → Apart rest → digits_in n rest ≡ taken n rest
unfolding digits_in
digits_end n [] a = refl
digits_end n (c ∷ cs) a = rw a

-- reading a first digit that is not 0
read_one : (n : ℕ) (rest : List ℕ) → 0 < n → n < 10 → number_in ((48 + n) ∷ rest) ≡ digits_in n rest
unfolding number_in
read_one n rest pos small =
    let e : 48 + n - 48 ≡ n = omega arith in
    let ne : eqb (48 + n) 48 ≡ false = ne_eqb (48 + n) 48 (λ (q : 48 + n ≡ 48). omega arith) in
    rw (is_digit_lem n small, ne, e)

one_digit : (f n : ℕ) → n < 10 → decimal_within (suc f) n ≡ (48 + n) ∷ []
unfolding decimal_within
one_digit f n h = rw (lt-ltb n 10 h)

more_digits : (f n : ℕ) → 10 ≤ n → decimal_within (suc f) n ≡ decimal_within f (n / 10) ++ (48 + n % 10) ∷ []
unfolding decimal_within
more_digits f n h = rw (le-ltb n 10 h)

-- if suc f digits are enough for a number, f digits are enough for its tenth
tenth : (f n : ℕ) → n < 10 ^ suc f → n / 10 < 10 ^ f
tenth f n h = let p = pow-succ' 10 f in omega arith

-- the digits of a number above 0 are read as that number
read_digits : (f n : ℕ) (rest : List ℕ) → 0 < n → n ≤ 4294967295 → n < 10 ^ f → number_in (decimal_within f n ++ rest) ≡ digits_in n rest
read_digits zero n rest pos fits few = absurd (omega arith)
read_digits (suc f) n rest pos fits few =
    by (ltb n 10) refl (λ (more : 10 ≤ n). read_digits f (n / 10) ((48 + n % 10) ∷ rest) (omega arith) (omega arith)
    (tenth f n few))
  where
    by : (t : Bool) → ltb n 10 ≡ t
        → (10 ≤ n → number_in (decimal_within f (n / 10) ++ (48 + n % 10) ∷ rest)
        ≡ digits_in (n / 10) ((48 + n % 10) ∷ rest))
        → number_in (decimal_within (suc f) n ++ rest) ≡ digits_in n rest
    by true e ih =
        let small = ltb-true n 10 e in
        ap (λ (l : List ℕ). number_in (l ++ rest)) (one_digit f n small) ∙ read_one n rest pos small
    by false e ih =
        let more = ltb-false n 10 e in
        let whole : 10 * (n / 10) + n % 10 ≡ n = omega arith in
        ap (λ (l : List ℕ). number_in (l ++ rest)) (more_digits f n more)
        ∙ ap number_in (append_assoc (decimal_within f (n / 10)) ((48 + n % 10) ∷ []) rest)
        ∙ ih more
        ∙ digits_more (n / 10) (n % 10) rest (omega arith) (omega arith)
        ∙ ap (λ (m : ℕ). digits_in m rest) whole

-- What is written is read back if no digit follows.
pub read_decimal : (n : ℕ) (rest : List ℕ) → n ≤ 4294967295 → Apart rest → number_in (decimal n ++ rest) ≡ taken n rest
unfolding decimal
read_decimal zero rest fits a = ap (λ (l : List ℕ). number_in (l ++ rest)) (one_digit 9 0 (omega arith)) ∙ zero_read
  where
    zero_read : number_in (48 ∷ rest) ≡ taken 0 rest
    zero_read = unfold number_in is_digit in refl
read_decimal (suc n) rest fits a = read_digits 10 (suc n) rest (omega arith) fits (omega arith) ∙ digits_end (suc n) rest a

-- allowing more digits than are needed changes nothing
spare : (f n : ℕ) → n < 10 ^ suc f → decimal_within (suc (suc f)) n ≡ decimal_within (suc f) n
spare zero n h = one_digit 1 n (omega arith) ∙ sym (one_digit 0 n (omega arith))
spare (suc f) n h = by (ltb n 10) refl (spare f (n / 10) (tenth (suc f) n h))
  where
    by : (t : Bool) → ltb n 10 ≡ t → decimal_within (suc (suc f)) (n / 10) ≡ decimal_within (suc f) (n / 10)
        → decimal_within (suc (suc (suc f))) n ≡ decimal_within (suc (suc f)) n
    by true e ih = let small = ltb-true n 10 e in one_digit (suc (suc f)) n small ∙ sym (one_digit (suc f) n small)
    by false e ih =
        let more = ltb-false n 10 e in
        more_digits (suc (suc f)) n more ∙ ap (λ (l : List ℕ). l ++ (48 + n % 10) ∷ []) ih ∙ sym (more_digits (suc f) n more)

pub decimal_one : (n : ℕ) → n < 10 → decimal n ≡ (48 + n) ∷ []
unfolding decimal
decimal_one n h = one_digit 9 n h

-- the decimal of a number above 0 with one more digit
pub decimal_more : (n d : ℕ) → 0 < n → d < 10 → 10 * n + d ≤ 4294967295 → decimal (10 * n + d) ≡ decimal n ++ (48 + d) ∷ []
unfolding decimal
decimal_more n d pos small fits =
    let q : (10 * n + d) / 10 ≡ n = omega arith in
    let r : (10 * n + d) % 10 ≡ d = omega arith in
    more_digits 9 (10 * n + d) (omega arith)
    ∙ ap (λ (m : ℕ). decimal_within 9 m ++ (48 + (10 * n + d) % 10) ∷ []) q
    ∙ ap (λ (m : ℕ). decimal_within 9 n ++ (48 + m) ∷ []) r
    ∙ ap (λ (l : List ℕ). l ++ (48 + d) ∷ []) (sym (spare 8 n (omega arith)))

-- the value of a digit
pub digit_is : (c : ℕ) → is_digit c ≡ true → (c ≡ 48 + (c - 48)) × (c - 48 < 10)
unfolding is_digit
digit_is c e = by (leb 48 c) (leb c 57) refl refl e
  where
    by : (t u : Bool) → leb 48 c ≡ t → leb c 57 ≡ u → t && u ≡ true → (c ≡ 48 + (c - 48)) × (c - 48 < 10)
    by true true p q e = let a = leb-true 48 c p in let b = leb-true c 57 q in (omega arith, omega arith)
    by true false p q e = let z : ◌≡◌ {A = ℕ} 0 1 = cc in absurd (omega arith)
    by false u p q e = let z : ◌≡◌ {A = ℕ} 0 1 = cc in absurd (omega arith)

-- What is read was written: the characters are the number's, then the rest.
pub record Wrote (cs : List ℕ) (n : ℕ) (rest : List ℕ) : Type 0 where
  pub fits : n ≤ 4294967295
  pub is : cs ≡ decimal n ++ rest

-- if reading stops after the digits of n, the characters are those of n and the rest
stopped : (n : ℕ) (cs : List ℕ) (m : ℕ) (rest : List ℕ) → n ≤ 4294967295 → taken n cs ≡ taken m rest → Wrote (decimal n ++ cs) m rest
stopped n cs m rest fits e =
    let p = some-injective (record { value = n; rest = cs }) (record { value = m; rest = rest }) e in
    let q : n ≡ m = ap (λ (t : Taken ℕ). t.value) p in
    let r : cs ≡ rest = ap (λ (t : Taken ℕ). t.rest) p in
    record { fits = omega arith; is = ap (λ (x : ℕ). decimal x ++ cs) q ∙ ap (λ (l : List ℕ). decimal m ++ l) r }

-- a reading does not fail and succeed
nothing : {A : Type 0} {P : Type 0} {x : A} → none ≡ some x → P
nothing {x = x} e = absurd (none-ne-some x e)

wrote_digits : (cs : List ℕ) (n : ℕ) (m : ℕ) (rest : List ℕ) → 0 < n → n ≤ 4294967295 → digits_in n cs ≡ taken m rest
    → Wrote (decimal n ++ cs) m rest
unfolding digits_in
wrote_digits [] n m rest pos fits e = stopped n [] m rest fits e
wrote_digits (c ∷ cs) n m rest pos fits e =
    digit (is_digit c) refl e (λ (few : 10 * n + (c - 48) ≤ 4294967295) f. wrote_digits cs (10 * n + (c - 48)) m rest
    (omega arith) few f)
  where
    more : is_digit c ≡ true → (u : Bool) → leb (10 * n + (c - 48)) 4294967295 ≡ u
        → cond u (digits_in (10 * n + (c - 48)) cs) none ≡ taken m rest
        → (10 * n + (c - 48) ≤ 4294967295 → digits_in (10 * n + (c - 48)) cs ≡ taken m rest
        → Wrote (decimal (10 * n + (c - 48)) ++ cs) m rest)
        → Wrote (decimal n ++ c ∷ cs) m rest
    more d false l e ih = nothing e
    more d true l e ih =
        let few = leb-true (10 * n + (c - 48)) 4294967295 l in
        let w = ih few e in
        let is = digit_is c d in
        record {
          fits = w.fits;
          is = ap (λ (x : ℕ). decimal n ++ x ∷ cs) is.0
              ∙ sym (append_assoc (decimal n) ((48 + (c - 48)) ∷ []) cs)
              ∙ ap (λ (l : List ℕ). l ++ cs) (sym (decimal_more n (c - 48) pos is.1 few))
              ∙ w.is;
        }

    digit : (t : Bool) → is_digit c ≡ t
        → cond t (cond (leb (10 * n + (c - 48)) 4294967295) (digits_in (10 * n + (c - 48)) cs) none) (taken n (c ∷ cs)) ≡ taken m rest
        → (10 * n + (c - 48) ≤ 4294967295 → digits_in (10 * n + (c - 48)) cs ≡ taken m rest
        → Wrote (decimal (10 * n + (c - 48)) ++ cs) m rest)
        → Wrote (decimal n ++ c ∷ cs) m rest
    digit true d e ih = more d (leb (10 * n + (c - 48)) 4294967295) refl e ih
    digit false d e ih = stopped n (c ∷ cs) m rest fits e

pub wrote_number : (cs : List ℕ) (n : ℕ) (rest : List ℕ) → number_in cs ≡ taken n rest → Wrote cs n rest
unfolding number_in
wrote_number [] n rest e = nothing e
wrote_number (c ∷ cs) n rest e = digit (is_digit c) refl e
  where
    zero_text : decimal 0 ≡ 48 ∷ []
    zero_text = unfold decimal in one_digit 9 0 (omega arith)

    first : is_digit c ≡ true → (t : Bool) → eqb c 48 ≡ t → cond t (taken 0 cs) (digits_in (c - 48) cs) ≡ taken n rest → Wrote (c ∷ cs) n rest
    first d true z e =
        let w = stopped 0 cs n rest (omega arith) e in
        record { fits = w.fits; is = ap (λ (x : ℕ). x ∷ cs) (eqb-true c 48 z) ∙ ap (λ (l : List ℕ). l ++ cs) (sym zero_text) ∙ w.is }
    first d false z e =
        let is = digit_is c d in
        let ne = eqb-false c 48 z in
        let pos : 0 < c - 48 = omega arith in
        let w = wrote_digits cs (c - 48) n rest pos (omega arith) e in
        let t : decimal (c - 48) ≡ (48 + (c - 48)) ∷ [] = unfold decimal in one_digit 9 (c - 48) is.1 in
        record { fits = w.fits; is = ap (λ (x : ℕ). x ∷ cs) is.0 ∙ ap (λ (l : List ℕ). l ++ cs) (sym t) ∙ w.is }

    digit : (t : Bool) → is_digit c ≡ t → cond t (cond (eqb c 48) (taken 0 cs) (digits_in (c - 48) cs)) none
        ≡ taken n rest → Wrote (c ∷ cs) n rest
    digit true d e = first d (eqb c 48) refl e
    digit false d e = nothing e

-- n has more than j digits; with j = 0 this says nothing.
abbrev pub Least : ℕ → ℕ → Type 0
Least zero n = Unit {0}
Least (suc j) n = 10 ^ suc j ≤ n

digits_count : (f j n : ℕ) → n < 10 ^ suc f → n < 10 ^ suc j → Least j n → length (decimal_within (suc f) n) ≡ suc j
digits_count f zero n small few l = ap length (one_digit f n (omega arith))
digits_count zero (suc j) n small few l =
    let p = pow-succ' 10 j in
    let q = one-le-pow j 10 (omega arith) in
    absurd (omega arith)
digits_count (suc f) (suc j) n small few l =
    let p = pow-succ' 10 j in
    let q = one-le-pow j 10 (omega arith) in
    ap length (more_digits (suc f) n (omega arith))
    ∙ length-append (decimal_within (suc f) (n / 10)) ((48 + n % 10) ∷ [])
    ∙ add-one (length (decimal_within (suc f) (n / 10)))
    ∙ ap suc (digits_count f j (n / 10) (tenth (suc f) n small) (tenth (suc j) n few) (least_tenth j n l))
  where
    least_tenth : (j n : ℕ) → 10 ^ suc j ≤ n → Least j (n / 10)
    least_tenth zero n l = tt
    least_tenth (suc j) n l = let p = pow-succ' 10 (suc j) in omega arith

pub count_is : (j n : ℕ) → n ≤ 4294967295 → n < 10 ^ suc j → Least j n → length (decimal n) ≡ suc j
unfolding decimal
count_is j n fits few l = digits_count 9 j n (omega arith) few l

-- Reading digits from a place on.
module _ (n : ℕ) (text : List ℕ) (i : ℕ) where
  pub digits_stop : i < length text → is_digit (get_or text i 0) ≡ false → digits_in n (drop i text) ≡ taken n (drop i text)
  digits_stop h e = digits_end n (drop i text) (subst Apart (sym (drop-cons text i 0 h)) e)

  pub digits_all : length text ≤ i → digits_in n (drop i text) ≡ taken n (drop (length text) text)
  digits_all h = rw (drop_of_length-le text {i = i} h, drop_of_length-le text {i = length text} (omega arith)) (digits_end n [] tt)

  pub digits_step : i < length text → is_digit (get_or text i 0) ≡ true → 10 * n + (get_or text i 0 - 48) ≤ 4294967295
      → digits_in n (drop i text) ≡ digits_in (10 * n + (get_or text i 0 - 48)) (drop (i + 1) text)
  unfolding digits_in
  digits_step h e fits = rw (add-one i, drop-cons text i 0 h, e, le-leb (10 * n + (get_or text i 0 - 48)) 4294967295 fits)

  pub digits_over : i < length text → is_digit (get_or text i 0) ≡ true → 4294967295 < 10 * n + (get_or text i 0 - 48)
      → digits_in n (drop i text) ≡ none
  unfolding digits_in
  digits_over h e over = rw (drop-cons text i 0 h, e, lt-leb (10 * n + (get_or text i 0 - 48)) 4294967295 over)

-- The number at a place of a text.
module _ (text : List ℕ) (i : ℕ) where
  pub number_none : length text ≤ i → number_in (drop i text) ≡ none
  unfolding number_in
  number_none h = rw (drop_of_length-le text {i = i} h)

  pub number_other : i < length text → is_digit (get_or text i 0) ≡ false → number_in (drop i text) ≡ none
  unfolding number_in
  number_other h e = rw (drop-cons text i 0 h, e)

  pub number_zero : i < length text → get_or text i 0 ≡ 48 → number_in (drop i text) ≡ taken 0 (drop (i + 1) text)
  unfolding number_in is_digit
  number_zero h e = rw (add-one i, drop-cons text i 0 h, e)

  pub number_digits : i < length text → is_digit (get_or text i 0) ≡ true → (get_or text i 0 ≡ 48 → ⊥)
      → number_in (drop i text) ≡ digits_in (get_or text i 0 - 48) (drop (i + 1) text)
  unfolding number_in
  number_digits h e ne = rw (add-one i, drop-cons text i 0 h, e, ne_eqb (get_or text i 0) 48 ne)

pub length_positive : (n : ℕ) → 0 < length (decimal n)
unfolding decimal decimal_within
length_positive n = by (ltb n 10)
  where
    by : (t : Bool) → 0 < length (cond t ((48 + n) ∷ []) (decimal_within 9 (n / 10) ++ (48 + n % 10) ∷ []))
    by true = omega arith
    by false = omega (arith, length-append (decimal_within 9 (n / 10)) ((48 + n % 10) ∷ []))

-- The lanes of a list of words, and that words are determined by their lanes.
-- Assumes nothing.
use mathlib.Core.Path.{◌≡◌, ◌∙◌, refl, sym, ap, ap₂}
use mathlib.Core.List.{List, [], ◌∷◌, ◌++◌, map}
use Prim.Native.Nat.{ℕ, zero, suc, ◌^◌, ◌≤◌, ◌<◌}
use native.Mathlib.Omega.{arith}
use lib.ListN.{length, get_or, take, drop, set, replicate, length-map, get_or-map}
use Rattle.batch_lanes.specs.Lane.{lane_count, lane, lane_of, packed, words_of}
use Rattle.batch_lanes.proofs.LaneLaws.{lane_none, lane_bit, lane_packed, packed_same, packed_lanes}

module _ {A B : Type 0} (f : A → B) where
  map_append : (xs ys : List A) → map f (xs ++ ys) ≡ map f xs ++ map f ys
  map_append [] ys = refl
  map_append (x ∷ xs) ys = ap (λ (l : List B). f x ∷ l) (map_append xs ys)

  map_take : (n : ℕ) (xs : List A) → map f (take n xs) ≡ take n (map f xs)
  map_take zero xs = refl
  map_take (suc n) [] = refl
  map_take (suc n) (x ∷ xs) = ap (λ (l : List B). f x ∷ l) (map_take n xs)

  map_drop : (n : ℕ) (xs : List A) → map f (drop n xs) ≡ drop n (map f xs)
  map_drop zero xs = refl
  map_drop (suc n) [] = refl
  map_drop (suc n) (x ∷ xs) = map_drop n xs

  map_set : (xs : List A) (i : ℕ) (v : A) → map f (set xs i v) ≡ set (map f xs) i (f v)
  map_set [] i v = refl
  map_set (x ∷ xs) zero v = refl
  map_set (x ∷ xs) (suc i) v = ap (λ (l : List B). f x ∷ l) (map_set xs i v)

pub lanes_length : (j : ℕ) (ws : List ℕ) → length (lane_of j ws) ≡ length ws
unfolding lane_of
lanes_length j ws = length-map ws (lane j)

pub lanes_append : (j : ℕ) (vs ws : List ℕ) → lane_of j (vs ++ ws) ≡ lane_of j vs ++ lane_of j ws
unfolding lane_of
lanes_append j vs ws = map_append (lane j) vs ws

pub lanes_take : (j n : ℕ) (ws : List ℕ) → lane_of j (take n ws) ≡ take n (lane_of j ws)
unfolding lane_of
lanes_take j n ws = map_take (lane j) n ws

pub lanes_drop : (j n : ℕ) (ws : List ℕ) → lane_of j (drop n ws) ≡ drop n (lane_of j ws)
unfolding lane_of
lanes_drop j n ws = map_drop (lane j) n ws

pub lanes_set : (j : ℕ) (ws : List ℕ) (i v : ℕ) → lane_of j (set ws i v) ≡ set (lane_of j ws) i (lane j v)
unfolding lane_of
lanes_set j ws i v = map_set (lane j) ws i v

-- the lane of the word at a place; 0 past the last word
pub lanes_at : (j : ℕ) (ws : List ℕ) (i : ℕ) → get_or (lane_of j ws) i 0 ≡ lane j (get_or ws i 0)
unfolding lane_of
lanes_at j ws i = ap (get_or (map (lane j) ws) i) (sym (lane_none j)) ∙ get_or-map (lane j) ws i 0

pub lanes_zeros : (j n : ℕ) → lane_of j (replicate n 0) ≡ replicate n 0
unfolding lane_of
lanes_zeros j zero = refl
lanes_zeros j (suc n) = ap₂ (λ (x : ℕ) (l : List ℕ). x ∷ l) (lane_none j) (lanes_zeros j n)

pub length_words : (n : ℕ) (lists : ℕ → List ℕ) → length (words_of n lists) ≡ n
unfolding words_of
length_words zero lists = refl
length_words (suc n) lists = ap suc (length_words n (λ j. drop 1 (lists j)))

pub lanes_bits : (j : ℕ) (ws : List ℕ) (i : ℕ) → get_or (lane_of j ws) i 0 ≤ 1
lanes_bits j ws i = rw (lanes_at j ws i) (lane_bit j (get_or ws i 0))

-- Words are determined by their 64 lanes.
pub words_are : (ws : List ℕ) (lists : ℕ → List ℕ) → ((i : ℕ) → get_or ws i 0 < 2 ^ 64)
    → ((j : ℕ) → j < lane_count → lane_of j ws ≡ lists j) → ws ≡ words_of (length ws) lists
unfolding lane_of words_of
words_are [] lists small e = refl
words_are (w ∷ ws) lists small e =
    let first : w ≡ packed lane_count (λ j. get_or (lists j) 0 0) =
    sym (packed_lanes 64 w (small 0))
    ∙ packed_same 64 (λ j. lane j w) (λ j. get_or (lists j) 0 0) (λ j h. ap (λ (l : List ℕ). get_or l 0 0) (e j h)) in
    ap₂ (λ (x : ℕ) (l : List ℕ). x ∷ l) first (words_are ws (λ j. drop 1 (lists j)) (λ i. small (suc i)) (λ j h. ap (drop 1) (e j h)))

-- the lanes of packed lists are these lists
pub lanes_of_words : (n : ℕ) (lists : ℕ → List ℕ) (j : ℕ) → j < lane_count → ((i : ℕ) → length (lists i) ≡ n)
    → ((i x : ℕ) → get_or (lists i) x 0 ≤ 1) → lane_of j (words_of n lists) ≡ lists j
unfolding lane_of words_of
lanes_of_words zero lists j h size small = none (lists j) (size j)
  where
    none : (l : List ℕ) → length l ≡ 0 → [] ≡ l
    none [] e = refl
    none (x ∷ l) e = absurd (omega arith)
lanes_of_words (suc n) lists j h size small =
    ap₂ (λ (x : ℕ) (l : List ℕ). x ∷ l) (lane_packed 64 j (λ i. get_or (lists i) 0 0) h (λ i. small i 0))
    (lanes_of_words n (λ i. drop 1 (lists i)) j h (λ i. rest_size (lists i) (size i)) (λ i x. rest_small (lists i) (size i) (small i) x))
    ∙ whole (lists j) (size j)
  where
    rest_size : (l : List ℕ) → length l ≡ suc n → length (drop 1 l) ≡ n
    rest_size [] e = absurd (omega arith)
    rest_size (x ∷ l) e = omega arith

    rest_small : (l : List ℕ) → length l ≡ suc n → ((x : ℕ) → get_or l x 0 ≤ 1) → (x : ℕ) → get_or (drop 1 l) x 0 ≤ 1
    rest_small [] e s x = omega arith
    rest_small (y ∷ l) e s x = s (suc x)

    whole : (l : List ℕ) → length l ≡ suc n → get_or l 0 0 ∷ drop 1 l ≡ l
    whole [] e = absurd (omega arith)
    whole (x ∷ l) e = refl

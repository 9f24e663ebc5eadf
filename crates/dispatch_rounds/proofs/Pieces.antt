-- A table of pieces, one for each jury, of which the first ones are already replaced.
-- Assumes nothing.
use mathlib.Core.Path.{◌≡◌, ◌∙◌, refl, sym, ap}
use mathlib.Core.Bool.{Bool, true, false, cond}
use mathlib.Core.List.{List, [], ◌∷◌, ◌++◌, append_assoc}
use Prim.Native.Nat.{ℕ, ◌+◌, ◌-◌, ◌≤◌}
use native.Mathlib.Omega.{arith}
use lib.Dec.{leb}
use lib.ListN.{length, get_or, set, take, drop, replicate, length-append, replicate-append-replicate}
use lib.Seq.{take_at, drop_at, get_or_at, set_at, append_snoc}
use borrow.Author.Tests.{leb-true, le-leb}
use Rattle.dispatch_rounds.specs.declared.header.JuryHeader.{JuryHeader}
use Rattle.dispatch_rounds.specs.Tables.{Tables, fitting, piece_of, pieces_of, remaining, through}
use Rattle.dispatch_rounds.specs.Rounds.{eight_of}

-- a piece that fits
pub piece_fits : (n : ℕ) (xs : List ℕ) → n ≤ length xs → piece_of n xs ≡ take n xs
unfolding piece_of fitting
piece_fits n xs h = rw (le-leb n (length xs) h)

-- a piece that has its length fits, and so does one that is not empty
pub full_fits : (n : ℕ) (xs : List ℕ) → length (piece_of n xs) ≡ n → n ≤ length xs
unfolding piece_of fitting
full_fits n xs e = go (leb n (length xs)) refl e
  where
    go : (b : Bool) → leb n (length xs) ≡ b → length (take (cond b n 0) xs) ≡ n → n ≤ length xs
    go true p q = leb-true n (length xs) p
    go false p q = omega arith

pub some_fits : (n : ℕ) (xs : List ℕ) → 1 ≤ length (piece_of n xs) → n ≤ length xs
unfolding piece_of fitting
some_fits n xs e = go (leb n (length xs)) refl e
  where
    go : (b : Bool) → leb n (length xs) ≡ b → 1 ≤ length (take (cond b n 0) xs) → n ≤ length xs
    go true p q = leb-true n (length xs) p
    go false p q = absurd (omega arith)

-- The table up to a place: before that place it is as it will be in the end; then come the old pieces.
pub record Upto (f g : JuryHeader → Tables → List ℕ) (rest : Tables → List ℕ) (ss : List JuryHeader) (t : Tables)
    (at : ℕ) (here final : List ℕ) : Type 0 where
  pub front : List ℕ
  pub long : length front ≡ at
  pub here_is : here ≡ front ++ through f rest ss t
  pub final_is : final ≡ front ++ through g rest ss t

pub upto_start : (f g : JuryHeader → Tables → List ℕ) (rest : Tables → List ℕ) (ss : List JuryHeader) (t : Tables)
    (here : List ℕ) → here ≡ through f rest ss t
    → Upto f g rest ss t 0 here (through g rest ss t)
upto_start f g rest ss t here e = record { front = []; long = refl; here_is = e; final_is = refl }

pub upto_end : (f g : JuryHeader → Tables → List ℕ) (rest : Tables → List ℕ) (t : Tables) (at : ℕ)
    (here final : List ℕ) → Upto f g rest [] t at here final → here ≡ final
unfolding through
upto_end f g rest t at here final u = u.here_is ∙ sym u.final_is

module _ (f g : JuryHeader → Tables → List ℕ) (rest : Tables → List ℕ) (s : JuryHeader) (ss : List JuryHeader)
    (t : Tables) (at n : ℕ) (here final : List ℕ)
    (u : Upto f g rest (s ∷ ss) t at here final) (old : length (f s (pieces_of s t)) ≡ n) where
  rest_of : drop at here ≡ f s (pieces_of s t) ++ through f rest ss (remaining s t)
  unfolding through
  rest_of = ap (drop at) u.here_is ∙ drop_at u.front (through f rest (s ∷ ss) t) at u.long

  -- the first piece that is still old
  pub upto_part : take n (drop at here) ≡ f s (pieces_of s t)
  upto_part = ap (take n) rest_of ∙ take_at (f s (pieces_of s t)) (through f rest ss (remaining s t)) n old

  pub upto_room : at + n ≤ length here
  unfolding through
  upto_room =
      omega (
        arith,
        ap length u.here_is,
        length-append u.front (through f rest (s ∷ ss) t),
        u.long,
        length-append (f s (pieces_of s t)) (through f rest ss (remaining s t)),
      )

  -- the table after this piece is replaced
  pub upto_next : (q : List ℕ) → q ≡ g s (pieces_of s t) → length q ≡ n
      → Upto f g rest ss (remaining s t) (at + n) (take at here ++ (q ++ drop n (drop at here))) final
  unfolding through
  upto_next q e l =
      let p = pieces_of s t in
      record {
        front = u.front ++ q;
        long = omega (arith, length-append u.front q, u.long);
        here_is =
            ap (λ (x : List ℕ). x ++ (q ++ drop n (drop at here)))
            (ap (take at) u.here_is ∙ take_at u.front (through f rest (s ∷ ss) t) at u.long)
            ∙ ap (λ (x : List ℕ). u.front ++ (q ++ x)) (ap (drop n) rest_of ∙ drop_at (f s p) (through f rest ss (remaining s t)) n old)
            ∙ sym (append_assoc u.front q (through f rest ss (remaining s t)));
        final_is =
            u.final_is ∙ ap (λ (x : List ℕ). u.front ++ (x ++ through g rest ss (remaining s t))) (sym e)
            ∙ sym (append_assoc u.front q (through g rest ss (remaining s t)));
      }

-- A piece of one number for each jury.
abbrev pub one_of : (JuryHeader → Tables → ℕ) → JuryHeader → Tables → List ℕ
one_of number s p = number s p ∷ []

module _ (f g : JuryHeader → Tables → ℕ) (rest : Tables → List ℕ) (s : JuryHeader) (ss : List JuryHeader)
    (t : Tables) (at : ℕ) (here final : List ℕ)
    (u : Upto (one_of f) (one_of g) rest (s ∷ ss) t at here final) where
  pub upto_read : (d : ℕ) → get_or here at d ≡ f s (pieces_of s t)
  unfolding through
  upto_read d = ap (λ (x : List ℕ). get_or x at d) u.here_is
      ∙ get_or_at u.front (f s (pieces_of s t)) (through (one_of f) rest ss (remaining s t)) d at u.long

  pub upto_set : (v : ℕ) → v ≡ g s (pieces_of s t) → Upto (one_of f) (one_of g) rest ss (remaining s t) (at + 1) (set here at v) final
  unfolding through
  upto_set v e =
      record {
        front = u.front ++ (v ∷ []);
        long = omega (arith, length-append u.front (v ∷ []), u.long);
        here_is =
            ap (λ (x : List ℕ). set x at v) u.here_is
            ∙ set_at u.front (f s (pieces_of s t)) (through (one_of f) rest ss (remaining s t)) v at u.long
            ∙ sym (append_snoc u.front v (through (one_of f) rest ss (remaining s t)));
        final_is =
            u.final_is ∙ ap (λ (x : ℕ). u.front ++ (x ∷ through (one_of g) rest ss (remaining s t))) (sym e)
            ∙ sym (append_snoc u.front v (through (one_of g) rest ss (remaining s t)));
      }

-- equal pieces make equal tables
pub through_same : (f g : JuryHeader → Tables → List ℕ) (rest : Tables → List ℕ)
    → ((s : JuryHeader) (p : Tables) → f s p ≡ g s p) → (ss : List JuryHeader) (t : Tables)
    → through f rest ss t ≡ through g rest ss t
unfolding through
through_same f g rest e [] t = refl
through_same f g rest e (s ∷ ss) t =
    ap (λ (x : List ℕ). x ++ through f rest ss (remaining s t)) (e s (pieces_of s t))
    ∙ ap (λ (x : List ℕ). g s (pieces_of s t) ++ x) (through_same f g rest e ss (remaining s t))

-- zeros for all juries
zeros_through : (pad : List ℕ) (ss : List JuryHeader) (t : Tables)
    → through (one_of (λ (s : JuryHeader) (p : Tables). 0)) (λ (t : Tables). pad) ss t ≡ replicate (length ss) 0 ++ pad
unfolding through
zeros_through pad [] t = refl
zeros_through pad (s ∷ ss) t = ap (λ (x : List ℕ). 0 ∷ x) (zeros_through pad ss (remaining s t))

pub eight_zeros : (number : JuryHeader → Tables → ℕ) → ((s : JuryHeader) (p : Tables) → number s p ≡ 0)
    → (ss : List JuryHeader) (t : Tables) → length ss ≤ 8
    → eight_of number ss t ≡ replicate 8 0
unfolding eight_of
eight_zeros number e ss t few =
    through_same (one_of number) (one_of (λ (s : JuryHeader) (p : Tables). 0)) (λ (t : Tables). replicate (8 - length ss) 0)
    (λ (s : JuryHeader) (p : Tables). ap (λ (x : ℕ). x ∷ []) (e s p)) ss t
    ∙ zeros_through (replicate (8 - length ss) 0) ss t
    ∙ replicate-append-replicate (length ss) (8 - length ss) 0
    ∙ ap (λ (n : ℕ). replicate n 0) {x = length ss + (8 - length ss)} {y = 8} (omega arith)

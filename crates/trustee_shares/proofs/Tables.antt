-- Tables that go trustee after trustee.
-- Assumes nothing.
use mathlib.Core.Path.{◌≡◌, ◌∙◌, refl, sym, ap}
use mathlib.Core.Bool.{Bool, true, false, cond}
use mathlib.Core.Logic.{◌≢◌}
use mathlib.Core.List.{List, [], ◌∷◌, ◌++◌, append-nil}
use Prim.Native.Nat.{ℕ, zero, suc, ◌+◌, ◌*◌, ◌<◌}
use native.Mathlib.Omega.{arith}
use lib.Dec.{eqb}
use lib.ListN.{length, take, drop, length-append, length-drop}
use lib.Seq.{length-take-le, take_all, take-add, take-append-le, drop-append-le, take_at, drop_at}
use borrow.Author.Tests.{eqb-true, eqb-false, ne_eqb}
use Rattle.trustee_shares.specs.Shares.{Held}
use Rattle.trustee_shares.specs.Views.{piece, joined, others_of}
use Rattle.basics.proofs.Arithmetic.{row_within}

module _ (size : ℕ) (f : Held) where
  pub length_joined : (t : ℕ) → ((p : ℕ) → p < t → length (f p) ≡ size) → length (joined t f) ≡ t * size
  unfolding joined
  length_joined zero e = omega arith
  length_joined (suc t) e = omega (
    arith,
    length-append (joined t f) (f t),
    length_joined t (λ (p : ℕ) h. e p (omega arith)),
    e t (omega arith),
  )

  -- the pieces of a table of pieces
  pub piece_joined : (t : ℕ) → ((p : ℕ) → p < t → length (f p) ≡ size) → (p : ℕ) → p < t → piece size (joined t f) p ≡ f p
  unfolding joined piece
  piece_joined zero e p h = absurd (omega arith)
  piece_joined (suc t) e p h = go (eqb p t) refl (piece_joined t (λ (q : ℕ) l. e q (omega arith)) p)
    where
      go : (b : Bool) → eqb p t ≡ b → (p < t → take size (drop (p * size) (joined t f)) ≡ f p)
          → take size (drop (p * size) (joined t f ++ f t)) ≡ f p
      go true is rest =
          let l = length_joined t (λ (q : ℕ) l. e q (omega arith)) in
          let s : t ≡ p = sym (eqb-true p t is) in
          rw (sym s) (rw (drop_at (joined t f) (f t) (t * size) l) (take_all size (f t) (omega (arith, e t (omega arith)))))
      go false is rest =
          let n = eqb-false p t is in
          let below : p < t = omega arith in
          let l = length_joined t (λ (q : ℕ) l. e q (omega arith)) in
          let m = row_within p t size below in
          rw (drop-append-le (p * size) (joined t f) (f t) (omega arith))
          (rw (take-append-le size (drop (p * size) (joined t f)) (f t) (omega (arith, length-drop (p * size) (joined t f)))) (rest below))

-- a table is the table of its pieces
pub joined_pieces : (t size : ℕ) (table : List ℕ) → joined t (piece size table) ≡ take (t * size) table
unfolding joined piece
joined_pieces zero size table = let e : 0 * size ≡ 0 = omega arith in rw e
joined_pieces (suc t) size table =
    let e : suc t * size ≡ t * size + size = omega arith in
    rw (e, joined_pieces t size table) (sym (take-add (t * size) size table))

pub whole_table : (t size : ℕ) (table : List ℕ) → length table ≡ t * size → joined t (piece size table) ≡ table
whole_table t size table e = joined_pieces t size table ∙ take_all (t * size) table (omega arith)

pub length_piece : (t size : ℕ) (table : List ℕ) (p : ℕ) → length table ≡ t * size → p < t → length (piece size table p) ≡ size
unfolding piece
length_piece t size table p e h =
    length-take-le size (drop (p * size) table) (omega (arith, length-drop (p * size) table, row_within p t size h))

-- tables are equal exactly if their pieces are
pub joined_cong : (t : ℕ) (f g : Held) → ((p : ℕ) → p < t → f p ≡ g p) → joined t f ≡ joined t g
unfolding joined
joined_cong zero f g e = refl
joined_cong (suc t) f g e = rw (joined_cong t f g (λ (p : ℕ) h. e p (omega arith)), e t (omega arith))

pub joined_same : (t size : ℕ) (f g : Held) → ((p : ℕ) → p < t → length (f p) ≡ size) → ((p : ℕ) → p < t → length (g p) ≡ size)
    → joined t f ≡ joined t g → (p : ℕ) → p < t → f p ≡ g p
joined_same t size f g lf lg e p h =
    sym (piece_joined size f t lf p h) ∙ ap (λ (l : List ℕ). piece size l p) e ∙ piece_joined size g t lg p h

-- the pieces of all trustees except q are equal exactly if each is
pub others_cong : (t q : ℕ) (f g : Held) → ((p : ℕ) → p < t → p ≢ q → f p ≡ g p) → others_of t q f ≡ others_of t q g
unfolding others_of
others_cong zero q f g e = refl
others_cong (suc t) q f g e = rw (others_cong t q f g (λ (p : ℕ) h n. e p (omega arith) n)) (go (eqb t q) refl)
  where
    go : (b : Bool) → eqb t q ≡ b → others_of t q g ++ cond b [] (f t ∷ []) ≡ others_of t q g ++ cond b [] (g t ∷ [])
    go true is = refl
    go false is = rw (e t (omega arith) (eqb-false t q is))

-- two lists of one length at the front of equal lists
split_left : {A : Type 0} (us ws : List A) (x y : List A) → length us ≡ length ws → us ++ x ≡ ws ++ y → us ≡ ws
split_left us ws x y l e = sym (take_at us x (length us) refl) ∙ ap (take (length us)) e ∙ take_at ws y (length us) (sym l)

split_right : {A : Type 0} (us ws : List A) (x y : List A) → length us ≡ length ws → us ++ x ≡ ws ++ y → x ≡ y
split_right us ws x y l e = sym (drop_at us x (length us) refl) ∙ ap (drop (length us)) e ∙ drop_at ws y (length us) (sym l)

length_kept : (b : Bool) (x y : List ℕ) (us ws : List (List ℕ)) → length us ≡ length ws
    → length (us ++ cond b [] (x ∷ [])) ≡ length (ws ++ cond b [] (y ∷ []))
length_kept true x y us ws e = rw (append-nil us, append-nil ws) e
length_kept false x y us ws e = omega (arith, length-append us (x ∷ []), length-append ws (y ∷ []))

length_others : (t q : ℕ) (f g : Held) → length (others_of t q f) ≡ length (others_of t q g)
unfolding others_of
length_others zero q f g = refl
length_others (suc t) q f g = length_kept (eqb t q) (f t) (g t) (others_of t q f) (others_of t q g) (length_others t q f g)

pub others_same : (t q : ℕ) (f g : Held) → others_of t q f ≡ others_of t q g → (p : ℕ) → p < t → p ≢ q → f p ≡ g p
unfolding others_of
others_same zero q f g e p h n = absurd (omega arith)
others_same (suc t) q f g e p h n =
    let l = length_others t q f g in
    let left = split_left (others_of t q f) (others_of t q g) (cond (eqb t q) [] (f t ∷ [])) (cond (eqb t q) [] (g t ∷ [])) l e in
    let right = split_right (others_of t q f) (others_of t q g) (cond (eqb t q) [] (f t ∷ [])) (cond (eqb t q) [] (g t ∷ [])) l e in
    go (eqb p t) refl right (λ b. others_same t q f g left p b n)
  where
    go : (b : Bool) → eqb p t ≡ b → cond (eqb t q) [] (f t ∷ []) ≡ cond (eqb t q) [] (g t ∷ []) → (p < t → f p ≡ g p) → f p ≡ g p
    go true is right rest =
        let s : p ≡ t = eqb-true p t is in
        let k = rw (ne_eqb t q (λ z. n (s ∙ z))) at right in
        rw s (cc)
    go false is right rest = let m = eqb-false p t is in rest (omega arith)

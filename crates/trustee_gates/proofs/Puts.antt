-- Storing entries in the pieces of a table.
-- Assumes nothing.
use mathlib.Core.Path.{◌≡◌, ◌∙◌, refl, sym, ap}
use mathlib.Core.Bool.{Bool, true, false}
use mathlib.Core.Logic.{◌≢◌}
use mathlib.Core.List.{List, [], ◌∷◌}
use Prim.Native.Nat.{ℕ, zero, suc, ◌+◌, ◌-◌, ◌*◌, ◌≤◌, ◌<◌}
use native.Mathlib.Numerals.{add-one}
use native.Mathlib.Omega.{arith}
use lib.Dec.{eqb, ltb}
use lib.ListN.{length, get_or, take, drop, set}
use lib.Seq.{get_or-take, get_or-drop, take-take, drop-drop, sets, length-sets, drop-set-add, drop-set-lt, take-set-lt, take-set-le}
use borrow.Author.Tests.{eqb-true, eqb-false, ltb-true, ltb-false}
use Rattle.trustee_shares.specs.Shares.{part, Held}
use Rattle.trustee_shares.specs.Views.{piece}
use Rattle.trustee_gates.specs.inner.Tables.{each_puts}
use Rattle.basics.proofs.Arithmetic.{row_within}

-- an entry of a piece, by its place in the table
pub part_piece : (size : ℕ) (table : List ℕ) (p x : ℕ) → x < size → part (piece size table p) x ≡ get_or table (p * size + x) 0
unfolding part piece
part_piece size table p x h = get_or-take size (drop (p * size) table) x 0 h ∙ get_or-drop (p * size) table x 0

-- a piece after one entry is stored
piece_set_same : (size : ℕ) (table : List ℕ) (p x v : ℕ) → x < size → piece size (set table (p * size + x) v) p
    ≡ set (piece size table p) x v
unfolding piece
piece_set_same size table p x v h = ap (take size) (drop-set-add (p * size) table x v) ∙ take-set-lt size (drop (p * size) table) x v h

piece_set_other : (size : ℕ) (table : List ℕ) (p q x v : ℕ) → q ≢ p → x < size
    → piece size (set table (p * size + x) v) q ≡ piece size table q
unfolding piece
piece_set_other size table p q x v n h = go (ltb p q) refl
  where
    go : (b : Bool) → ltb p q ≡ b → take size (drop (q * size) (set table (p * size + x) v)) ≡ take size (drop (q * size) table)
    go true is =
        let m = row_within p q size (ltb-true p q is) in
        ap (take size) (drop-set-lt (q * size) table (p * size + x) v (omega arith))
    go false is =
        let l = ltb-false p q is in
        let below : q < p = omega arith in
        let m = row_within q p size below in
        let j = p * size + x - q * size in
        let e : p * size + x ≡ q * size + j = omega arith in
        ap (λ (i : ℕ). take size (drop (q * size) (set table i v))) e
        ∙ ap (take size) (drop-set-add (q * size) table j v) ∙ take-set-le size (drop (q * size) table) j v (omega arith)

-- a piece after several entries are stored
piece_sets_same : (size p : ℕ) (vs : List ℕ) (table : List ℕ) (x : ℕ) → x + length vs ≤ size
    → piece size (sets table (p * size + x) vs) p ≡ sets (piece size table p) x vs
piece_sets_same size p [] table x h = refl
piece_sets_same size p (v ∷ vs) table x h =
    let e : suc (p * size + x) ≡ p * size + suc x = omega arith in
    ap (λ (i : ℕ). piece size (sets (set table (p * size + x) v) i vs) p) e
    ∙ piece_sets_same size p vs (set table (p * size + x) v) (suc x) (omega arith)
    ∙ ap (λ (l : List ℕ). sets l (suc x) vs) (piece_set_same size table p x v (omega arith))

piece_sets_other : (size p q : ℕ) (vs : List ℕ) (table : List ℕ) (x : ℕ) → q ≢ p → x + length vs ≤ size
    → piece size (sets table (p * size + x) vs) q ≡ piece size table q
piece_sets_other size p q [] table x n h = refl
piece_sets_other size p q (v ∷ vs) table x n h =
    let e : suc (p * size + x) ≡ p * size + suc x = omega arith in
    ap (λ (i : ℕ). piece size (sets (set table (p * size + x) v) i vs) q) e
    ∙ piece_sets_other size p q vs (set table (p * size + x) v) (suc x) n (omega arith)
    ∙ piece_set_other size table p q x v n (omega arith)

pub length_puts : (t size x : ℕ) (f : Held) (table : List ℕ) → length (each_puts t size x f table) ≡ length table
unfolding each_puts
length_puts zero size x f table = refl
length_puts (suc t) size x f table = length-sets (each_puts t size x f table) (t * size + x) (f t) ∙ length_puts t size x f table

module _ (size x : ℕ) (f : Held) (table : List ℕ) where
  -- pieces from t on are unchanged
  pub puts_later : (t q : ℕ) → t ≤ q → ((p : ℕ) → p < t → x + length (f p) ≤ size)
      → piece size (each_puts t size x f table) q ≡ piece size table q
  unfolding each_puts
  puts_later zero q h fits = refl
  puts_later (suc t) q h fits =
      piece_sets_other size t q (f t) (each_puts t size x f table) x (λ e. omega arith) (fits t (omega arith))
      ∙ puts_later t q (omega arith) (λ (p : ℕ) l. fits p (omega arith))

  -- pieces before t have their entries
  pub puts_at : (t q : ℕ) → q < t → ((p : ℕ) → p < t → x + length (f p) ≤ size)
      → piece size (each_puts t size x f table) q ≡ sets (piece size table q) x (f q)
  unfolding each_puts
  puts_at zero q h fits = absurd (omega arith)
  puts_at (suc t) q h fits = go (eqb q t) refl (λ l. puts_at t q l (λ (p : ℕ) m. fits p (omega arith)))
    where
      go : (b : Bool) → eqb q t ≡ b → (q < t → piece size (each_puts t size x f table) q ≡ sets (piece size table q) x (f q))
          → piece size (sets (each_puts t size x f table) (t * size + x) (f t)) q ≡ sets (piece size table q) x (f q)
      go true is rest =
          let s : q ≡ t = eqb-true q t is in
          rw s (piece_sets_same size t (f t) (each_puts t size x f table) x (fits t (omega arith))
          ∙ ap (λ (l : List ℕ). sets l x (f t)) (puts_later t t (omega arith) (λ (p : ℕ) m. fits p (omega arith))))
      go false is rest =
          let n = eqb-false q t is in
          piece_sets_other size t q (f t) (each_puts t size x f table) x n (fits t (omega arith)) ∙ rest (omega arith)

-- equal entries give equal tables
pub puts_same : (t size x : ℕ) (f g : Held) (table : List ℕ) → ((p : ℕ) → p < t → f p ≡ g p)
    → each_puts t size x f table ≡ each_puts t size x g table
unfolding each_puts
puts_same zero size x f g table e = refl
puts_same (suc t) size x f g table e = rw (puts_same t size x f g table (λ (p : ℕ) h. e p (omega arith)), e t (omega arith))

-- a part within the first n entries
pub drop_in_take : (m k n : ℕ) (l : List ℕ) → m + k ≤ n → take k (drop m (take n l)) ≡ take k (drop m l)
drop_in_take zero k n l h = take-take k n l (omega arith)
drop_in_take (suc m) k zero l h = absurd (omega arith)
drop_in_take (suc m) k (suc n) [] h = refl
drop_in_take (suc m) k (suc n) (x ∷ l) h = drop_in_take m k n l (omega arith)

pub piece_part : (size : ℕ) (table : List ℕ) (p m k : ℕ) → m + k ≤ size → take k (drop (p * size + m) table)
    ≡ take k (drop m (piece size table p))
unfolding piece
piece_part size table p m k h =
    ap (take k) (sym (drop-drop m (p * size) table)) ∙ sym (drop_in_take m k size (drop (p * size) table) h)

-- one more trustee stores one entry, or two
pub puts_one : (f : ℕ → ℕ) (now before : List ℕ) (p size x v : ℕ) → now ≡ each_puts p size x (λ q. f q ∷ []) before → v ≡ f p
    → set now (p * size + x) v ≡ each_puts (p + 1) size x (λ q. f q ∷ []) before
unfolding each_puts
puts_one f now before p size x v e h = rw (e, h, add-one p)

pub puts_two : (f g : ℕ → ℕ) (now before : List ℕ) (p size x v w : ℕ) → now
    ≡ each_puts p size x (λ q. f q ∷ g q ∷ []) before → v ≡ f p → w ≡ g p
    → set (set now (p * size + x) v) (p * size + x + 1) w ≡ each_puts (p + 1) size x (λ q. f q ∷ g q ∷ []) before
unfolding each_puts
puts_two f g now before p size x v w e h k = rw (e, h, k, add-one p, add-one (p * size + x))

-- before a trustee stores its entry, its piece is unchanged
pub own_piece : (f : ℕ → ℕ) (now before : List ℕ) (p size x : ℕ) → x < size → now
    ≡ each_puts p size x (λ q. f q ∷ []) before → piece size now p ≡ piece size before p
own_piece f now before p size x h e =
    ap (λ (l : List ℕ). piece size l p) e ∙ puts_later size x (λ q. f q ∷ []) before p p (omega arith) (λ (q : ℕ) l. omega arith)

pub puts_many : (f : Held) (now before after : List ℕ) (p size x : ℕ) (vs : List ℕ) → now
    ≡ each_puts p size x f before → after ≡ sets now (p * size + x) vs → vs ≡ f p
    → after ≡ each_puts (p + 1) size x f before
unfolding each_puts
puts_many f now before after p size x vs e h k = h ∙ rw (e, k, add-one p)

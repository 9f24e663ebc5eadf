-- Blocks written one after the other.
-- Assumes nothing.
use mathlib.Core.Path.{◌≡◌, ◌∙◌, sym, ap, subst}
use mathlib.Core.List.{List}
use Prim.Native.Nat.{ℕ, suc, ◌+◌, ◌*◌, ◌/◌, ◌%◌, ◌≤◌, ◌<◌}
use native.Mathlib.Numerals.{add-one}
use native.Mathlib.Omega.{arith}
use lib.ListN.{length}
use Rattle.jury.specs.Shape.{most_candidates, most_pairs}
use Rattle.gates.specs.Gate.{Gate}
use Rattle.gate_words.specs.declared.writer.Writer.{Writer}
use Rattle.gate_words.specs.Writing.{Room, Wrote}
use Rattle.gate_words.proofs.Writing.{wrote_nothing, room_after, room_less}
use Rattle.ranked_circuit.specs.Table.{blocks, entries, table, entry_end}
use Rattle.ranked_blocks.proofs.Entering.{square_small}
use Rattle.ranked_circuit.proofs.TableLaws.{start_of, start_next, start_grows, length_same, row_low, column_low, number_of}
use Rattle.gate_words.proofs.Standing.{wrote_then}

-- room for k blocks of one gate each
pub single_room : (w : Writer) (b : ℕ → ℕ → List Gate) (k : ℕ) → ((at e : ℕ) → length (b at e) ≡ 1) → Room w k
    → Room w (length (blocks w.wire b k))
single_room w b k one room = room_less w _ _ (omega (arith, length_same w.wire b 1 one k)) room

module _ (w₀ : Writer) (t₀ : List ℕ) (block : ℕ → ℕ → List Gate) where
  -- m blocks are written
  abbrev pub Filled : ℕ → List ℕ → Writer → Type 0
  Filled m t w = Wrote w₀ t₀ (blocks w₀.wire block m) t w

  pub fill_start : Filled 0 t₀ w₀
  fill_start = unfold blocks in (wrote_nothing w₀ t₀)

  pub fill_wire : (m : ℕ) (t : List ℕ) (w : Writer) → Filled m t w → w.wire ≡ start_of w₀.wire block m
  fill_wire m t w a = a.wires

  pub fill_next : (m : ℕ) (t : List ℕ) (w : Writer) (t₁ : List ℕ) (w₁ : Writer) → Filled m t w
      → Wrote w t (block w.wire m) t₁ w₁ → Filled (m + 1) t₁ w₁
  fill_next m t w t₁ w₁ a b =
      subst (λ (n : ℕ). Filled n t₁ w₁) (sym (add-one m))
      (unfold blocks in (wrote_then w₀ t₀ (blocks w₀.wire block m) t w (block w.wire m)
      (block (start_of w₀.wire block m) m) t₁ w₁ a b (ap (λ (at : ℕ). block at m) (fill_wire m t w a))))

  pub fill_room : (m most : ℕ) (t : List ℕ) (w : Writer) → m < most
      → Room w₀ (length (blocks w₀.wire block most)) → Filled m t w → Room w (length (block w.wire m))
  fill_room m most t w h r a =
      let next = start_next w₀.wire block m in
      let here = ap (λ (at : ℕ). length (block at m)) (fill_wire m t w a) in
      room_after w₀ t₀ (blocks w₀.wire block m) t w (length (block w.wire m))
      (length (blocks w₀.wire block most)) a (omega (arith, start_grows w₀.wire block most (suc m) h)) r

  pub fill_end : (m most : ℕ) (t : List ℕ) (w : Writer) → most ≤ m → m ≤ most → Filled m t w → Filled most t w
  fill_end m most t w h g a = subst (λ (n : ℕ). Filled n t w) {x = m} {y = most} (omega arith) a

-- A turn of the loop over a table of k rows. Block e is in row e / k and column e % k.
pub record Turn (k e : ℕ) : Type 0 where
  pub row : e / k < k
  pub column : e % k < k
  pub number : e / k * k + e % k ≡ e
  pub few : e < k * k
  pub small : e < most_pairs

pub turn : {k e : ℕ} → k ≤ most_candidates → e < k * k → Turn k e
turn {k} {e} h l = record {
  row = row_low k e l;
  column = column_low k e l;
  number = number_of k e;
  few = l;
  small = omega (arith, square_small k h);
}

module _ (w₀ : Writer) (t₀ : List ℕ) (k : ℕ) (block : ℕ → ℕ → ℕ → List Gate) where
  abbrev numbered : ℕ → ℕ → List Gate
  numbered at e = block at (e / k) (e % k)

  -- e blocks of the table are written
  abbrev pub TableTo : ℕ → List ℕ → Writer → Type 0
  TableTo e t w = Wrote w₀ t₀ (entries w₀.wire k block e) t w

  pub table_start : TableTo 0 t₀ w₀
  unfolding entries
  table_start = fill_start w₀ t₀ numbered

  pub table_next : (e : ℕ) (t : List ℕ) (w : Writer) (t₁ : List ℕ) (w₁ : Writer) → TableTo e t w
      → Wrote w t (block w.wire (e / k) (e % k)) t₁ w₁ → TableTo (e + 1) t₁ w₁
  unfolding entries
  table_next e t w t₁ w₁ a b = fill_next w₀ t₀ numbered e t w t₁ w₁ a b

  pub table_room : (e : ℕ) (t : List ℕ) (w : Writer) → e < k * k → Room w₀ (length (table w₀.wire k block))
      → TableTo e t w → Room w (length (block w.wire (e / k) (e % k)))
  unfolding entries table
  table_room e t w h r a = fill_room w₀ t₀ numbered e (k * k) t w h r a

  pub table_end : (e : ℕ) (t : List ℕ) (w : Writer) → k * k ≤ e → e ≤ k * k → TableTo e t w → Wrote w₀ t₀ (table w₀.wire k block) t w
  unfolding entries table
  table_end e t w h g a = fill_end w₀ t₀ numbered e (k * k) t w h g a

  -- the writer is after the blocks so far, and the next writer after one block more
  pub table_from : (e : ℕ) (t : List ℕ) (w : Writer) → TableTo e t w → w₀.wire ≤ w.wire
  table_from e t w a = omega (arith, a.wires)

  pub end_before : (e i j : ℕ) (t : List ℕ) (w : Writer) → i * k + j < e → TableTo e t w → entry_end w₀.wire k block i j ≤ w.wire
  unfolding entries entry_end
  end_before e i j t w h a = omega (arith, a.wires, start_grows w₀.wire numbered e (suc (i * k + j)) h)

  pub end_here : (e i j : ℕ) (t : List ℕ) (w : Writer) → i * k + j ≡ e → TableTo (e + 1) t w → w.wire ≡ entry_end w₀.wire k block i j
  unfolding entry_end
  end_here e i j t w q a = a.wires ∙ ap (λ (x : ℕ). w₀.wire + length (entries w₀.wire k block x)) (add-one e ∙ ap suc (sym q))

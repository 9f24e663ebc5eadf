-- Demand 3: a mask that is applied twice cancels, so the second tape is the first board masked by the second wires.
-- Assumes nothing.
use Rattle.std.specs.Prelude.{Some, None}
use mathlib.Core.Path.{◌≡◌, ◌∙◌, refl, sym, ap}
use mathlib.Core.Bool.{Bool, true, false, cond}
use mathlib.Core.List.{List, [], ◌∷◌, ◌++◌, zip_with}
use Prim.Native.Nat.{ℕ, zero, suc, ◌+◌, ◌%◌, ◌≤◌, ◌<◌}
use native.Mathlib.Omega.{arith}
use lib.Dec.{ltb}
use lib.ListN.{length, get_or, take, drop, length-append, get_or-append}
use lib.Seq.{take_at, drop_at, get_or-drop}
use borrow.Author.Tests.{ltb-false, le-ltb}
use Rattle.gates.specs.Open.Gate.{Gate}
use Rattle.gates.specs.Open.Wires.{wire, wires_of, outputs_of}
use Rattle.gates.specs.Open.Board.{conditionals, conditional_count, shown_bit, shown_bits, board_of, Bits, MaskTape}
use Rattle.gates.specs.Test.{first_above_one}
use Rattle.gates.specs.Hiding.{ExactlyOne, Finished, BoardHidesInputs}
use Rattle.gates.proofs.Finishing.{length_shown}
use Rattle.gates.proofs.WireLaws.{length_wires}
use Rattle.gates.proofs.Laws.{length_outputs}

-- a search for bytes above 1 finds nothing exactly if all are bits
pub none_above : (i : ℕ) (xs : List ℕ) → Bits xs → first_above_one i xs ≡ None
unfolding first_above_one
none_above i [] b = refl
none_above i (x ∷ xs) b = rw (le-ltb 1 x (b 0)) (none_above (suc i) xs (λ (j : ℕ). b (suc j)))

bits_cons : (x : ℕ) (xs : List ℕ) → x ≤ 1 → Bits xs → Bits (x ∷ xs)
bits_cons x xs h b zero = h
bits_cons x xs h b (suc j) = b j

-- every part of a list of bits has bits
pub bits_take : (n : ℕ) (xs : List ℕ) → Bits xs → Bits (take n xs)
bits_take zero xs b i = omega arith
bits_take (suc n) [] b i = omega arith
bits_take (suc n) (x ∷ xs) b zero = b 0
bits_take (suc n) (x ∷ xs) b (suc i) = bits_take n xs (λ (j : ℕ). b (suc j)) i

pub bits_drop : (n : ℕ) (xs : List ℕ) → Bits xs → Bits (drop n xs)
bits_drop n xs b i = omega (arith, get_or-drop n xs i 0, b (n + i))

pub all_bits : (i : ℕ) (xs : List ℕ) → first_above_one i xs ≡ None → Bits xs
unfolding first_above_one
all_bits i [] e = λ j. omega arith
all_bits i (x ∷ xs) e = go (ltb 1 x) refl (λ q. all_bits (suc i) xs q) e
  where
    go : (t : Bool) → ltb 1 x ≡ t → (first_above_one (suc i) xs ≡ None → Bits xs)
        → cond t (Some i) (first_above_one (suc i) xs) ≡ None → Bits (x ∷ xs)
    go true p rest q = let z : ◌≡◌ {A = ℕ} 0 1 = cc in absurd (omega arith)
    go false p rest q = bits_cons x xs (ltb-false 1 x p) (rest q)

-- byte i of two lists that are combined place by place
zip_at : {A B : Type 0} (f : A → B → ℕ) (cs : List A) (ms : List B) (i : ℕ) (c : A) (m : B) → i < length cs → i
    < length ms → get_or (zip_with f cs ms) i 0 ≡ f (get_or cs i c) (get_or ms i m)
unfolding zip_with
zip_at f [] ms i c m h l = absurd (omega arith)
zip_at f (x ∷ cs) [] i c m h l = absurd (omega arith)
zip_at f (x ∷ cs) (y ∷ ms) zero c m h l = refl
zip_at f (x ∷ cs) (y ∷ ms) (suc i) c m h l = zip_at f cs ms i c m (omega arith) (omega arith)

-- the board of a list is a finished board
pub board_finished : (ws : List ℕ) (gs : List Gate) (k : ℕ) (tape : List ℕ) → k ≤ length ws → length tape
    ≡ conditional_count gs → Finished ws gs k tape (board_of ws gs k tape)
unfolding board_of shown_bits shown_bit
board_finished ws gs k tape h l =
    let bits = shown_bits ws gs tape in
    let n : length bits ≡ conditional_count gs = length_shown ws gs tape l in
    record {
      size = omega (arith, length-append bits (outputs_of k ws), length_outputs k ws h);
      shown = λ (i : ℕ) (g : i < conditional_count gs).
          get_or-append bits (outputs_of k ws) 0 i (omega arith)
          ∙ zip_at (shown_bit ws) (conditionals gs) tape i (record { kind = 0; a = 0; b = 0; c = 0 }) 0 (below gs i g) (omega arith);
      closing = drop_at bits (outputs_of k ws) (conditional_count gs) n;
    }
  where
    below : (gs : List Gate) (i : ℕ) → i < conditional_count gs → i < length (conditionals gs)
    below gs i g = unfold conditional_count in g

-- masking twice with the same wires gives back a tape of bits
twice : (a m : ℕ) → m ≤ 1 → (a + (a + m) % 2) % 2 ≡ m
twice a m h = omega arith

unmask : (ws : List ℕ) (cs : List Gate) (ms : List ℕ) → length ms ≡ length cs → Bits ms
    → zip_with (shown_bit ws) cs (zip_with (shown_bit ws) cs ms) ≡ ms
unfolding zip_with shown_bit
unmask ws [] [] e b = refl
unmask ws [] (m ∷ ms) e b = absurd (omega arith)
unmask ws (c ∷ cs) [] e b = absurd (omega arith)
unmask ws (c ∷ cs) (m ∷ ms) e b =
    ap (λ (x : ℕ). x ∷ zip_with (shown_bit ws) cs (zip_with (shown_bit ws) cs ms)) (twice (wire ws c.a) m (b 0))
    ∙ ap (λ (l : List ℕ). m ∷ l) (unmask ws cs ms (omega arith) (λ (i : ℕ). b (suc i)))

zip_bits : (ws : List ℕ) (cs : List Gate) (ms : List ℕ) → Bits (zip_with (shown_bit ws) cs ms)
unfolding zip_with shown_bit
zip_bits ws [] ms = λ i. omega arith
zip_bits ws (c ∷ cs) [] = λ i. omega arith
zip_bits ws (c ∷ cs) (m ∷ ms) = bits_cons ((wire ws c.a + m) % 2) (zip_with (shown_bit ws) cs ms) (omega arith) (zip_bits ws cs ms)

-- the shown bits of any tape are a mask tape themselves
shown_tape : (ws : List ℕ) (gs : List Gate) (tape : List ℕ) → length tape ≡ conditional_count gs → MaskTape gs (shown_bits ws gs tape)
unfolding shown_bits
shown_tape ws gs tape e = record { size = length_shown ws gs tape e; bits = zip_bits ws (conditionals gs) tape }

shown_twice : (ws : List ℕ) (gs : List Gate) (tape : List ℕ) → MaskTape gs tape → shown_bits ws gs (shown_bits ws gs tape) ≡ tape
unfolding shown_bits conditional_count
shown_twice ws gs tape m = unmask ws (conditionals gs) tape m.size m.bits

-- two boards with equal outputs are equal exactly if their shown bits are
pub one_tape : (vs ws : List ℕ) (gs : List Gate) (k : ℕ) → outputs_of k vs ≡ outputs_of k ws → (s : List ℕ) → MaskTape gs s
    → ExactlyOne (λ (t : List ℕ). MaskTape gs t × (board_of vs gs k s ≡ board_of ws gs k t))
unfolding board_of
one_tape vs ws gs k o s m =
    let shown = shown_bits vs gs s in
    let tape = shown_bits ws gs shown in
    let shown_mask = shown_tape vs gs s m.size in (
      tape,
      (
        shown_tape ws gs shown shown_mask.size,
        ap (λ (l : List ℕ). shown ++ l) o ∙ ap (λ (l : List ℕ). l ++ outputs_of k ws) (sym (shown_twice ws gs shown shown_mask)),
      ),
      λ (t : List ℕ) p.
          let same : shown ≡ shown_bits ws gs t =
          sym (take_at shown (outputs_of k vs) (conditional_count gs) shown_mask.size) ∙ ap (take (conditional_count gs)) p.1
          ∙ take_at (shown_bits ws gs t) (outputs_of k ws) (conditional_count gs) (length_shown ws gs t p.0.size) in
          sym (shown_twice ws gs t p.0) ∙ sym (ap (shown_bits ws gs) same),
    )

pub board_hides_inputs : BoardHidesInputs
board_hides_inputs gs k xs ys enough closing =
    record {
      first_board = λ (s : List ℕ) m. board_finished (wires_of xs gs) gs k s (room xs) m.size;
      second_board = λ (t : List ℕ) m. board_finished (wires_of ys gs) gs k t (room ys) m.size;
      same_board = one_tape (wires_of xs gs) (wires_of ys gs) gs k closing;
    }
  where
    room : (xs : List ℕ) → k ≤ length (wires_of xs gs)
    room xs = omega (arith, length_wires xs gs)

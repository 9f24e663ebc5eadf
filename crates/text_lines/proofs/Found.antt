-- What the functions that read find at a place of a text.
-- Assumes nothing.
use mathlib.Core.Path.{◌≡◌, sym}
use mathlib.Core.Option.{Option, none, some, bind}
use mathlib.Core.List.{List}
use mathlib.Core.Bool.{true}
use Prim.Native.Nat.{ℕ, ◌+◌, ◌≤◌, ◌<◌}
use native.Mathlib.Numerals.{add-one}
use native.Mathlib.Omega.{arith}
use lib.Dec.{ltb}
use lib.ListN.{length, get_or, drop, drop_of_length-le}
use lib.Seq.{drop-cons}
use borrow.Author.Tests.{lt-ltb, le-ltb, ne_eqb}
use Rattle.std.specs.Prelude.{Some, None}
use Rattle.gates.specs.Kind.{operands_of, kind_count}
use Rattle.text_lines.specs.Decimal.{Taken, taken, number_in}
use Rattle.text_lines.specs.Line.{known_kind, operand_in, end_in, gate_in}
use Rattle.text_lines.specs.inner.Found.{number_found, NumberRead, line_found, LineRead}
use Rattle.text_lines.specs.declared.decimal.Found.{Found}

-- reading an operand at a place
module _ (text : List ℕ) (i : ℕ) where
  pub operand_none : length text ≤ i → operand_in true (drop i text) ≡ none
  unfolding operand_in
  operand_none h = rw (drop_of_length-le text {i = i} h)

  pub operand_other : i < length text → (get_or text i 0 ≡ 32 → ⊥) → operand_in true (drop i text) ≡ none
  unfolding operand_in
  operand_other h ne = rw (drop-cons text i 0 h, ne_eqb (get_or text i 0) 32 ne)

  pub operand_number : i < length text → get_or text i 0 ≡ 32 → operand_in true (drop i text) ≡ number_in (drop (i + 1) text)
  unfolding operand_in
  operand_number h e = rw (add-one i, drop-cons text i 0 h, e)

  pub end_none : length text ≤ i → end_in (drop i text) ≡ none
  unfolding end_in
  end_none h = rw (drop_of_length-le text {i = i} h)

  pub end_other : i < length text → (get_or text i 0 ≡ 10 → ⊥) → end_in (drop i text) ≡ none
  unfolding end_in
  end_other h ne = rw (drop-cons text i 0 h, ne_eqb (get_or text i 0) 10 ne)

  pub end_feed : i < length text → get_or text i 0 ≡ 10 → end_in (drop i text) ≡ some (drop (i + 1) text)
  unfolding end_in
  end_feed h e = rw (add-one i, drop-cons text i 0 h, e)

-- A number that was read at a place, and one that was not.
read : {text : List ℕ} {o : Option (Taken ℕ)} {n : Found} → NumberRead text o (Some n) → o ≡ taken n.value (drop n.next text)
unfolding number_found
read r = sym r.found

unread : {text : List ℕ} {o : Option (Taken ℕ)} → NumberRead text o None → o ≡ none
unfolding number_found
unread r = sym r.found

-- The parts of a line, each read where the one before it ended: the line is malformed at the first part that is.
module _ (text : List ℕ) (at : ℕ) where
  pub no_kind : NumberRead text (number_in (drop at text)) None → LineRead text (gate_in (drop at text)) None
  unfolding gate_in bind line_found
  no_kind r = record { found = rw (unread r); within = tt }

  module _ (k : Found) (reads : NumberRead text (number_in (drop at text)) (Some k)) where
    pub unknown : kind_count ≤ k.value → LineRead text (gate_in (drop at text)) None
    unfolding gate_in bind known_kind line_found
    unknown h = record { found = rw (read reads, le-ltb k.value kind_count h); within = tt }

    module _ (h : k.value < kind_count) (m : ℕ) (e : m ≡ operands_of k.value) where
      pub no_a : NumberRead text (operand_in (ltb 0 m) (drop k.next text)) None → LineRead text (gate_in (drop at text)) None
      unfolding gate_in bind known_kind line_found
      no_a r = record { found = rw (read reads, lt-ltb k.value kind_count h, ← e, unread r); within = tt }

      module _ (a : Found) (reads_a : NumberRead text (operand_in (ltb 0 m) (drop k.next text)) (Some a)) where
        pub no_b : NumberRead text (operand_in (ltb 1 m) (drop a.next text)) None → LineRead text (gate_in (drop at text)) None
        unfolding gate_in bind known_kind line_found
        no_b r = record { found = rw (read reads, lt-ltb k.value kind_count h, ← e, read reads_a, unread r); within = tt }

        module _ (b : Found) (reads_b : NumberRead text (operand_in (ltb 1 m) (drop a.next text)) (Some b)) where
          pub no_c : NumberRead text (operand_in (ltb 2 m) (drop b.next text)) None → LineRead text (gate_in (drop at text)) None
          unfolding gate_in bind known_kind line_found
          no_c r = record {
            found = rw (read reads, lt-ltb k.value kind_count h, ← e, read reads_a, read reads_b, unread r);
            within = tt;
          }

          module _ (c : Found) (reads_c : NumberRead text (operand_in (ltb 2 m) (drop b.next text)) (Some c)) where
            pub no_end : end_in (drop c.next text) ≡ none → LineRead text (gate_in (drop at text)) None
            unfolding gate_in bind known_kind line_found
            no_end r = record {
              found = rw (read reads, lt-ltb k.value kind_count h, ← e, read reads_a, read reads_b, read reads_c, r);
              within = tt;
            }

            pub whole : c.next < length text → get_or text c.next 0 ≡ 10 → LineRead text (gate_in (drop at text))
                (Some (record { gate = record { kind = k.value; a = a.value; b = b.value; c = c.value }; next = c.next + 1 }))
            unfolding gate_in bind known_kind line_found
            whole l f = record {
              found = rw (
                read reads,
                lt-ltb k.value kind_count h,
                ← e,
                read reads_a,
                read reads_b,
                read reads_c,
                end_feed text c.next l f,
              );
              within = omega arith;
            }

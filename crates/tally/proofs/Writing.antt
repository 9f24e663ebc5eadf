-- What a write answers and leaves, from the outcomes of its two tests.
-- Assumes nothing.
use mathlib.Core.Path.{◌≡◌, ◌∙◌, refl, sym, ap}
use mathlib.Core.Bool.{Bool, true, false}
use mathlib.Core.Option.{Option, none, some}
use mathlib.Core.List.{List, [], ◌∷◌, ◌++◌}
use Prim.Native.Nat.{ℕ, ◌+◌, ◌*◌, ◌≤◌}
use native.Mathlib.Omega.{arith}
use lib.Dec.{leb}
use lib.ListN.{length, take, drop, length-append, length-drop}
use lib.Seq.{sets, sets-eq, take_at}
use borrow.Author.Tests.{leb-true}
use Rattle.gates.specs.Gate.{numbers_of, gates_of}
use Rattle.gates.proofs.Laws.{length_numbers, read_whole}
use Rattle.jury.specs.declared.shape.Shape.{Shape}
use Rattle.jury.specs.Shape.{within_limits}
use Rattle.jury.specs.Reason.{Reason, reason_at, unless, first_of}
use Rattle.tally.specs.OwnList.{own_list}
use Rattle.tally.specs.Answer.{refused, accepted, outcome, Size, size_of, overwritten}
use Rattle.tally.specs.Write.{write_reasons, write_outcome, write_result}
use Rattle.tally.specs.Demands.{list_in}
use Rattle.tally.proofs.TestReasons.{never}

module _ (s : Shape) (table : List ℕ) where
  by : Bool → Bool → Option Reason
  by within long = first_of (unless within 1 ∷ unless long 2 ∷ [])

  reasons_by : (within long : Bool) → within_limits s ≡ within → leb (4 * length (own_list s)) (length table) ≡ long
      → first_of (write_reasons s table) ≡ by within long
  unfolding write_reasons by
  reasons_by within long e f = rw (e, f)

  -- the answer and the table, for each first reason
  pub write_refused : (r : Reason) → first_of (write_reasons s table) ≡ some r → (write_outcome s table ≡ refused r)
      × (write_result s table ≡ table)
  unfolding write_outcome outcome write_result overwritten
  write_refused r e = (
    ap (λ (o : Option Reason). outcome o (size_of (own_list s))) e,
    ap (λ (o : Option Reason). overwritten o (numbers_of (own_list s)) table) e,
  )

  pub outside : within_limits s ≡ false → first_of (write_reasons s table) ≡ some (reason_at 1 0)
  unfolding by unless first_of
  outside e = reasons_by false _ e refl

  pub too_short : within_limits s ≡ true → leb (4 * length (own_list s)) (length table) ≡ false
      → first_of (write_reasons s table) ≡ some (reason_at 2 0)
  unfolding by unless first_of
  too_short e f = reasons_by true false e f

  pub fits : within_limits s ≡ true → leb (4 * length (own_list s)) (length table) ≡ true → first_of (write_reasons s table) ≡ none
  unfolding by unless first_of
  fits e f = reasons_by true true e f

  pub write_accepted : first_of (write_reasons s table) ≡ none
      → (write_outcome s table ≡ accepted (size_of (own_list s)))
      × (write_result s table ≡ numbers_of (own_list s) ++ drop (length (numbers_of (own_list s))) table)
  unfolding write_outcome outcome write_result overwritten
  write_accepted e = (
    ap (λ (o : Option Reason). outcome o (size_of (own_list s))) e,
    ap (λ (o : Option Reason). overwritten o (numbers_of (own_list s)) table) e,
  )

  -- an accepted write, as facts
  pub record WritePassed (size : Size) : Type 0 where
    pub within : within_limits s ≡ true
    pub room : 4 * length (own_list s) ≤ length table
    pub reasons : first_of (write_reasons s table) ≡ none
    pub own_size : size ≡ size_of (own_list s)

  pub write_passed : (size : Size) → write_outcome s table ≡ accepted size → WritePassed size
  write_passed size e = shape (within_limits s) refl
    where
      refuses : {A : Type 0} (r : Reason) → first_of (write_reasons s table) ≡ some r → A
      refuses r f = never size r (sym (write_refused r f).0 ∙ e)

      long : within_limits s ≡ true → (b : Bool) → leb (4 * length (own_list s)) (length table) ≡ b → WritePassed size
      long w true l =
          let none_applies = fits w l in
          let q : accepted (size_of (own_list s)) ≡ accepted size = sym (write_accepted none_applies).0 ∙ e in
          record { within = w; room = leb-true (4 * length (own_list s)) (length table) l; reasons = none_applies; own_size = cc }
      long w false l = refuses (reason_at 2 0) (too_short w l)

      shape : (b : Bool) → within_limits s ≡ b → WritePassed size
      shape true w = long w (leb (4 * length (own_list s)) (length table)) refl
      shape false w = refuses (reason_at 1 0) (outside w)

  -- the first 4G numbers are the list's
  pub list_in_lem : (size : Size) → WritePassed size → list_in s size table ≡ numbers_of (own_list s)
  unfolding list_in size_of
  list_in_lem size p =
      let ns = numbers_of (own_list s) in
      let g : size.gates ≡ length (own_list s) = ap (λ (z : Size). z.gates) p.own_size in
      ap (take (4 * size.gates)) (write_accepted p.reasons).1
      ∙ take_at ns (drop (length ns) table) (4 * size.gates) (omega (arith, length_numbers (own_list s)))

  pub gates_in : (size : Size) → WritePassed size → gates_of (list_in s size table) ≡ own_list s
  gates_in size p = ap gates_of (list_in_lem size p) ∙ read_whole (own_list s)

  -- no write changes the length
  long_after : (o : Option Reason) → first_of (write_reasons s table) ≡ o → length (write_result s table) ≡ length table
  long_after (some r) e = ap length (write_refused r e).1
  long_after none e =
      let ns = numbers_of (own_list s) in
      let p = write_passed (size_of (own_list s)) (write_accepted e).0 in
      ap length (write_accepted e).1
      ∙ omega (
        arith,
        length-append ns (drop (length ns) table),
        length-drop (length ns) table,
        length_numbers (own_list s),
        p.room,
      )

  pub write_length : length (write_result s table) ≡ length table
  write_length = long_after (first_of (write_reasons s table)) refl

  -- storing the list's numbers gives the table of the definition
  pub stored : 4 * length (own_list s) ≤ length table → sets table (4 * 0) (numbers_of (own_list s))
      ≡ numbers_of (own_list s) ++ drop (length (numbers_of (own_list s))) table
  stored h =
      let ns = numbers_of (own_list s) in
      let from : 0 + length ns ≡ length ns = omega arith in
      sets-eq ns table 0 (omega (arith, length_numbers (own_list s))) ∙ ap (λ (n : ℕ). ns ++ drop n table) from

-- A whole round: the parts, then the factors, and after the last level the closing bits.
-- Assumes nothing.
use mathlib.Core.Path.{◌≡◌, ◌∙◌, refl, sym, ap}
use mathlib.Core.Bool.{Bool, true, false, cond, ◌&&◌}
use mathlib.Core.List.{List, [], ◌∷◌, ◌++◌, append-nil}
use Prim.Native.Nat.{ℕ, suc, ◌+◌, ◌-◌, ◌*◌, ◌≤◌}
use native.Mathlib.Omega.{arith}
use lib.Dec.{eqb}
use lib.ListN.{length, get_or, take, drop, set, length-drop, length-set, drop_of_length-le}
use lib.Seq.{sets, length-sets, sets-eq}
use borrow.Author.Tests.{eq-eqb, ne_eqb}
use Rattle.gates.specs.Kind.{conditional_of}
use Rattle.gates.specs.Gate.{Gate}
use Rattle.gates.specs.Wires.{outputs_of}
use Rattle.gates.proofs.Whole.{outputs_are}
use Rattle.trustee_shares.specs.Shares.{masked_first, masked_second, mark_of}
use Rattle.trustee_shares.specs.Views.{closing_parts}
use Rattle.trustee_rounds.specs.Rounds.{Turn, heard_part, enters_gate, enters, publishes_gate, publishes, closes}

-- no pass changes a length
pub length_cond : (b : Bool) (new old : List ℕ) → length new ≡ length old → length (cond b new old) ≡ length old
length_cond true new old e = e
length_cond false new old e = refl

length_enters_gate : (u : Turn) (g i : ℕ) (x : Gate) (ws : List ℕ) → length (enters_gate u g i x ws) ≡ length ws
unfolding enters_gate
length_enters_gate u g i x ws =
    length_cond (eqb (get_or u.levels g 0) u.round) (set ws (u.inputs + g) (heard_part u i x ws)) ws
    (length-set ws (u.inputs + g) (heard_part u i x ws))

pub length_enters : (u : Turn) (gs : List Gate) (g i : ℕ) (ws : List ℕ) → length (enters u gs g i ws) ≡ length ws
unfolding enters
length_enters u [] g i ws = refl
length_enters u (x ∷ xs) g i ws = length_enters u xs (suc g) (i + mark_of x) (enters_gate u g i x ws) ∙ length_enters_gate u g i x ws

length_publishes_gate : (u : Turn) (ws : List ℕ) (g i : ℕ) (x : Gate) (published : List ℕ)
    → length (publishes_gate u ws g i x published) ≡ length published
unfolding publishes_gate
length_publishes_gate u ws g i x published =
    let entries = masked_first ws u.triples i x ∷ masked_second ws u.triples i x ∷ [] in
    length_cond (conditional_of x.kind && eqb (get_or u.levels g 0) (suc u.round))
    (sets published (2 * i) entries) published (length-sets published (2 * i) entries)

pub length_publishes : (u : Turn) (ws : List ℕ) (gs : List Gate) (g i : ℕ) (published : List ℕ)
    → length (publishes u ws gs g i published) ≡ length published
unfolding publishes
length_publishes u ws [] g i published = refl
length_publishes u ws (x ∷ xs) g i published =
    length_publishes u ws xs (suc g) (i + mark_of x) (publishes_gate u ws g i x published)
    ∙ length_publishes_gate u ws g i x published

module _ (round last conditional k : ℕ) (ws published : List ℕ) where
  pub not_closing : (round ≡ last → ⊥) → published ≡ closes round last conditional k ws published
  unfolding closes
  not_closing h = sym (ap (λ (b : Bool). cond b (sets published (2 * conditional) (closing_parts k ws)) published) (ne_eqb round last h))

  pub closing : round ≡ last → k ≤ length ws → length published ≡ 2 * conditional + k → (after : List ℕ) → after
      ≡ take (2 * conditional) published ++ outputs_of k ws → after ≡ closes round last conditional k ws published
  unfolding closes closing_parts
  closing e enough long after f =
      let out = drop (length ws - k) ws in
      let size : length out ≡ k = omega (arith, length-drop (length ws - k) ws) in
      f ∙ ap (λ (l : List ℕ). take (2 * conditional) published ++ l) (outputs_are k ws)
      ∙ sym (
      ap (λ (b : Bool). cond b (sets published (2 * conditional) out) published) (eq-eqb round last e)
      ∙ sets-eq out published (2 * conditional) (omega arith)
      ∙ ap (λ (l : List ℕ). take (2 * conditional) published ++ out ++ l)
      (drop_of_length-le published {i = 2 * conditional + length out} (omega arith))
      ∙ append-nil (take (2 * conditional) published ++ out))

-- A block that is written in pieces: what is left after each piece.
-- Assumes nothing.
use mathlib.Core.Path.{◌≡◌, ◌∙◌, refl}
use mathlib.Core.List.{List, [], ◌++◌}
use Prim.Native.Nat.{ℕ, ◌+◌, ◌≤◌}
use native.Mathlib.Omega.{arith}
use lib.ListN.{length, length-append}
use Rattle.gates.specs.Gate.{Gate}
use Rattle.gates.proofs.Counting.{count_most}
use Rattle.gate_words.specs.Writing.{Room, Wrote}
use Rattle.gate_words.specs.declared.writer.Writer.{Writer}
use Rattle.gate_words.proofs.Writing.{wrote_nothing, wrote_both}

-- Writing the rest from here completes the whole that was begun at the start.
pub record Goes (w₀ : Writer) (t₀ : List ℕ) (whole : List Gate) (w : Writer) (t : List ℕ) (rest : List Gate) : Type 0 where
  pub ends : (t' : List ℕ) (r : Writer) → Wrote w t rest t' r → Wrote w₀ t₀ whole t' r
  pub long : length t ≡ length t₀
  pub gate_left : w.gate + length rest ≡ w₀.gate + length whole
  pub wire_left : w.wire + length rest ≡ w₀.wire + length whole
  pub counted : w.conditional ≤ w.gate

pub goes_start : (w : Writer) (t : List ℕ) (whole : List Gate) (n : ℕ) → Room w n → Goes w t whole w t whole
goes_start w t whole n r = record { ends = λ t' s h. h; long = refl; gate_left = refl; wire_left = refl; counted = r.counted }

module _ (w₀ : Writer) (t₀ : List ℕ) (whole : List Gate) where
  pub goes_as : (w : Writer) (t : List ℕ) (rest rest' : List Gate) → rest ≡ rest' → Goes w₀ t₀ whole w t rest → Goes w₀ t₀ whole w t rest'
  goes_as w t rest rest' e g = rw (← e) g

  -- a piece is written, and the rest is left
  pub goes_on : (w : Writer) (t : List ℕ) (b rest : List Gate) (t₁ : List ℕ) (w₁ : Writer)
      → Goes w₀ t₀ whole w t (b ++ rest) → Wrote w t b t₁ w₁ → Goes w₀ t₀ whole w₁ t₁ rest
  goes_on w t b rest t₁ w₁ g a =
      record {
        ends = λ t' r h. g.ends t' r (wrote_both w t b t₁ w₁ rest t' r a h);
        long = a.long ∙ g.long;
        gate_left = omega (arith, a.gates, g.gate_left, length-append b rest);
        wire_left = omega (arith, a.wires, g.wire_left, length-append b rest);
        counted = omega (arith, a.gates, a.conditionals, g.counted, count_most b);
      }

  -- there is room for m gates of the rest
  pub goes_room : (w : Writer) (t : List ℕ) (rest : List Gate) (m n : ℕ) → Goes w₀ t₀ whole w t rest → m
      ≤ length rest → length whole ≤ n → Room w₀ n → Room w m
  goes_room w t rest m n g l k r =
      record {
        few = omega (arith, g.gate_left, r.few);
        small = omega (arith, g.wire_left, r.small);
        counted = g.counted;
      }

  -- nothing is left, so the whole is written
  pub goes_end : (w : Writer) (t : List ℕ) (rest : List Gate) → rest ≡ [] → Goes w₀ t₀ whole w t rest → Wrote w₀ t₀ whole t w
  goes_end w t rest e g = (goes_as w t rest [] e g).ends t w (wrote_nothing w t)

-- a turn of a loop: one piece is written, and the rest is left, or an equal of it
pub goes_turn : {w₀ w w₁ : Writer} {t₀ t t₁ : List ℕ} {whole rest b rest' : List Gate}
    → rest ≡ b ++ rest' → Goes w₀ t₀ whole w t rest → Wrote w t b t₁ w₁ → Goes w₀ t₀ whole w₁ t₁ rest'
goes_turn {w₀} {w} {w₁} {t₀} {t} {t₁} {whole} {rest} {b} {rest'} e g a =
    goes_on w₀ t₀ whole w t b rest' t₁ w₁ (goes_as w₀ t₀ whole w t rest (b ++ rest') e g) a

pub goes_turn_as : {w₀ w w₁ : Writer} {t₀ t t₁ : List ℕ} {whole rest b rest' rest'' : List Gate}
    → rest ≡ b ++ rest' → Goes w₀ t₀ whole w t rest → Wrote w t b t₁ w₁ → rest' ≡ rest'' → Goes w₀ t₀ whole w₁ t₁ rest''
goes_turn_as {w₀} {w} {w₁} {t₀} {t} {t₁} {whole} {rest} {b} {rest'} {rest''} e g a s =
    goes_as w₀ t₀ whole w₁ t₁ rest' rest'' s (goes_turn e g a)

-- before a piece of m gates there is room for it
pub goes_room_for : {w₀ w : Writer} {t₀ t : List ℕ} {whole rest : List Gate} {m n : ℕ}
    → Goes w₀ t₀ whole w t rest → m ≤ length rest → length whole ≤ n → Room w₀ n → Room w m
goes_room_for {w₀} {w} {t₀} {t} {whole} {rest} {m} {n} g l k r = goes_room w₀ t₀ whole w t rest m n g l k r

-- after the loop nothing is left
pub goes_done : {w₀ w : Writer} {t₀ t : List ℕ} {whole rest : List Gate} → Goes w₀ t₀ whole w t rest → rest ≡ [] → Wrote w₀ t₀ whole t w
goes_done {w₀} {w} {t₀} {t} {whole} {rest} g e = goes_end w₀ t₀ whole w t rest e g

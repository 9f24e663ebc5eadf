-- Laws of the answer array: an answer is put at its start, and the rest stays.
-- Assumes nothing.
use Rattle.std.proofs.Common.{◌≡◌, ◌∙◌, sym, ap, List, [], ◌∷◌, ◌++◌, ℕ, suc, ◌+◌, ◌≤◌, length, set, take, drop, arith}

-- the array holds reason, place and what is told, then its old contents
pub all_put : (reason place : ℕ) (told before last : List ℕ) (n : ℕ) → 2 ≤ length before → last ≡ told → n ≡ length told
    → take 2 (set (set before 0 reason) 1 place) ++ (last ++ drop n (drop 2 (set (set before 0 reason) 1 place)))
    ≡ (reason ∷ place ∷ told) ++ drop (2 + length told) before
all_put reason place told [] last n h e f = absurd (omega arith)
all_put reason place told (x ∷ []) last n h e f = absurd (omega arith)
all_put reason place told (x ∷ y ∷ rest) last n h e f =
    let two : 2 + length told ≡ suc (suc (length told)) = omega arith in
    ap (λ (l : List ℕ). reason ∷ place ∷ (l ++ drop n rest)) e
    ∙ ap (λ (m : ℕ). reason ∷ place ∷ (told ++ drop m rest)) f
    ∙ sym (ap (λ (m : ℕ). (reason ∷ place ∷ told) ++ drop m (x ∷ y ∷ rest)) two)

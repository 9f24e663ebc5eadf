-- `c_dispatch::by_rounds::headers_in` meets its contract, jury by jury.
use Rattle.std.proofs.Common.{◌≡◌, ◌∙◌, refl, ap, List, ◌∷◌}
use Rattle.dispatch_rounds.specs.declared.header.JuryHeader.{JuryHeader}
use Rattle.c_dispatch.specs.Numbers.{headers_in}
use Rattle.c_dispatch.proofs.by_rounds.headers_in.Goals as goal

cons : (a b : JuryHeader) (xs ys : List JuryHeader) → a ≡ b → xs ≡ ys → a ∷ xs ≡ b ∷ ys
cons a b xs ys e f = ap (λ (s : JuryHeader). s ∷ xs) e ∙ ap (λ (l : List JuryHeader). b ∷ l) f

pub returns : goal.returns
unfolding headers_in
returns c = cons _ _ _ _ c.header_at.ensures
    (cons _ _ _ _ c.header_at-2.ensures
    (cons _ _ _ _ c.header_at-3.ensures
    (cons _ _ _ _ c.header_at-4.ensures
    (cons _ _ _ _ c.header_at-5.ensures
    (cons _ _ _ _ c.header_at-6.ensures
    (cons _ _ _ _ c.header_at-7.ensures (cons _ _ _ _ c.header_at-8.ensures (refl))))))))

-- The panels P1 to P11 with their closing bytes by full majority judgment. P3, P9 and P11 have no winner by the
-- gauge; the others keep theirs.
use Rattle.std.specs.Prelude.{◌≡◌, refl, List, [], ◌∷◌, map, ℕ}
use Rattle.basics.specs.Lists.{sum}
use Rattle.rule_judgment.specs.Median.{median_of, median_from}
use Rattle.rule_judgment.specs.GaugePanels.{panel_counts}
use Rattle.rule_judgment.specs.Judgment.{judgment_of, none_precedes, precedes, sequence_of, strikes, strike}

-- The closing bytes of each panel.
unfoldable pub panel_closings : List (List ℕ)
panel_closings =
    (1 ∷ 0 ∷ 0 ∷ [])
    ∷ (1 ∷ 0 ∷ [])
    ∷ (1 ∷ 1 ∷ [])
    ∷ (1 ∷ 0 ∷ [])
    ∷ (1 ∷ 0 ∷ [])
    ∷ (1 ∷ 0 ∷ [])
    ∷ (1 ∷ 0 ∷ [])
    ∷ (1 ∷ 0 ∷ [])
    ∷ (1 ∷ 0 ∷ [])
    ∷ (1 ∷ [])
    ∷ (1 ∷ 1 ∷ 0 ∷ [])
    ∷ []

-- The rule gives each panel its closing bytes.
pub panels_hold : map judgment_of panel_counts ≡ panel_closings
unfolding panel_counts panel_closings judgment_of none_precedes precedes sequence_of strikes strike median_of
    median_from sum
panels_hold = refl

-- The panels P1 to P11 [panels]: counts, best grade first, and their closing bytes by the gauge.
use Rattle.std.specs.Prelude.{◌≡◌, refl, List, [], ◌∷◌, map, ℕ}
use Rattle.basics.specs.Lists.{sum}
use Rattle.rule_judgment.specs.Gauge.{closing_of, closing_from, beats_all, beats, better_median, equal_medians, stronger_median, larger_p, smaller_q, p_of, q_of}
use Rattle.rule_judgment.specs.Median.{median_of, median_from}

-- The matrix of each panel, with one row for each candidate.
unfoldable pub panel_counts : List (List (List ℕ))
panel_counts =
    ((31 ∷ 151 ∷ 529 ∷ 254 ∷ 35 ∷ []) ∷ (21 ∷ 48 ∷ 442 ∷ 301 ∷ 188 ∷ []) ∷ (101 ∷ 7 ∷ 2 ∷ 86 ∷ 804 ∷ []) ∷ [])
    ∷ ((1 ∷ 0 ∷ 0 ∷ []) ∷ (0 ∷ 1 ∷ 0 ∷ []) ∷ [])
    ∷ ((0 ∷ 1 ∷ 0 ∷ []) ∷ (0 ∷ 1 ∷ 0 ∷ []) ∷ [])
    ∷ ((1 ∷ 1 ∷ 1 ∷ []) ∷ (0 ∷ 0 ∷ 3 ∷ []) ∷ [])
    ∷ ((2 ∷ 0 ∷ 2 ∷ []) ∷ (1 ∷ 2 ∷ 1 ∷ []) ∷ [])
    ∷ ((1 ∷ 2 ∷ 0 ∷ []) ∷ (0 ∷ 2 ∷ 1 ∷ []) ∷ [])
    ∷ ((2 ∷ 3 ∷ 0 ∷ []) ∷ (1 ∷ 4 ∷ 0 ∷ []) ∷ [])
    ∷ ((0 ∷ 4 ∷ 1 ∷ []) ∷ (0 ∷ 3 ∷ 2 ∷ []) ∷ [])
    ∷ ((1 ∷ 1 ∷ 1 ∷ []) ∷ (0 ∷ 3 ∷ 0 ∷ []) ∷ [])
    ∷ ((0 ∷ 2 ∷ []) ∷ [])
    ∷ ((1 ∷ 2 ∷ 0 ∷ []) ∷ (1 ∷ 2 ∷ 0 ∷ []) ∷ (0 ∷ 0 ∷ 3 ∷ []) ∷ [])
    ∷ []

-- The closing bytes of each panel.
unfoldable pub gauge_closings : List (List ℕ)
gauge_closings =
    (1 ∷ 0 ∷ 0 ∷ [])
    ∷ (1 ∷ 0 ∷ [])
    ∷ (0 ∷ 0 ∷ [])
    ∷ (1 ∷ 0 ∷ [])
    ∷ (1 ∷ 0 ∷ [])
    ∷ (1 ∷ 0 ∷ [])
    ∷ (1 ∷ 0 ∷ [])
    ∷ (1 ∷ 0 ∷ [])
    ∷ (0 ∷ 0 ∷ [])
    ∷ (1 ∷ [])
    ∷ (0 ∷ 0 ∷ 0 ∷ [])
    ∷ []

-- The gauge gives each panel its closing bytes.
pub gauge_panels_hold : map closing_of panel_counts ≡ gauge_closings
unfolding panel_counts gauge_closings closing_of closing_from beats_all beats better_median equal_medians
    stronger_median
    larger_p smaller_q median_of median_from p_of q_of sum
gauge_panels_hold = refl

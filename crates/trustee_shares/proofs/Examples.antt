-- The dealings of `Examples` have these views, by computation; the gate layer's laws say which kinds are
-- conditional.
-- Assumes nothing.
use mathlib.Core.Path.{◌≡◌, ◌∙◌, refl, ap}
use mathlib.Core.Bool.{Bool, true, cond}
use mathlib.Core.List.{[], ◌∷◌}
use Rattle.gates.specs.Kind.{conditional_of}
use Rattle.gates.specs.Board.{conditional_count}
use Rattle.gates.proofs.Counting.{count_one}
use Rattle.gates.proofs.Laws.{marks}
use Rattle.trustee_shares.specs.Shares.{sum_of, opened, part, u_of, v_of, product_of, first_factor, second_factor, masked_first, masked_second, entered, product_part, part_of_kind, opened_first, opened_second, new_part, mark_of, parts_of}
use Rattle.trustee_shares.specs.Views.{piece, joined, ballots_of, triples_of, wire_parts_of, masked_factors, closing_parts, published_of, others_of, view_of}
use Rattle.trustee_shares.specs.Examples.{and_gate, first_dealing, second_dealing, other_triple, one_view, PairOfDealings}

is_conditional : conditional_of 4 ≡ true
is_conditional = marks.4

count : conditional_count and_gate ≡ 1
count = count_one (record { kind = 4; a = 0; b = 1; c = 0 }) ∙ ap (λ (b : Bool). cond b 1 0) is_conditional

first_view : view_of 2 1 2 and_gate 1 first_dealing ≡ one_view
unfolding view_of others_of ballots_of triples_of piece joined wire_parts_of published_of masked_factors closing_parts parts_of
    new_part part_of_kind opened_first opened_second opened sum_of masked_first masked_second first_factor second_factor
    product_part entered part u_of v_of product_of mark_of
first_view = rw (count, is_conditional) refl

second_view : view_of 2 1 2 and_gate 1 second_dealing ≡ one_view
unfolding view_of others_of ballots_of triples_of piece joined wire_parts_of published_of masked_factors closing_parts parts_of
    new_part part_of_kind opened_first opened_second opened sum_of masked_first masked_second first_factor second_factor
    product_part entered part u_of v_of product_of mark_of
second_view = rw (count, is_conditional) refl

other_view : (view_of 2 1 2 and_gate 1 other_triple).published ≡ 0 ∷ 0 ∷ 0 ∷ 0 ∷ 1 ∷ 0 ∷ []
unfolding view_of others_of ballots_of triples_of piece joined wire_parts_of published_of masked_factors closing_parts parts_of
    new_part part_of_kind opened_first opened_second opened sum_of masked_first masked_second first_factor second_factor
    product_part entered part u_of v_of product_of mark_of
other_view = rw (count, is_conditional) refl

pub pair_of_dealings : PairOfDealings
pair_of_dealings = record { first_view = first_view; second_view = second_view; other_view = other_view }

-- What a call leaves, by whether its answer array is long enough.
-- Assumes nothing.
use Rattle.std.specs.Prelude.{Result, Ok, Err, MatchResult, IsOkAnd}
use mathlib.Core.Path.{◌≡◌, ◌∙◌, refl, sym, ap}
use mathlib.Core.Option.{Option}
use mathlib.Core.Bool.{Bool, cond}
use mathlib.Core.List.{List, [], ◌∷◌, ◌++◌}
use Prim.Native.Nat.{ℕ, ◌<◌, ◌≤◌}
use lib.ListN.{length, drop}
use borrow.Author.Tests.{lt-ltb, le-ltb}
use Rattle.gates.specs.declared.list.ListSize.{ListSize}
use Rattle.jury.specs.Reason.{Reason, reason_of}
use Rattle.jury.specs.declared.reason.Refusal.{Refusal}
use Rattle.tally.specs.Answer.{outcome_of}
use Rattle.c_answers.specs.Numbers.{answer_numbers, size_told, size_numbers, mapped, result_numbers, told_numbers, status_of, short_answer, status, answered, CallResult, call_result}
use Rattle.c_answers.specs.inner.Puts.{Puts}

-- equal parts make equal numbers
pub counted : (o q : Option Reason) (bytes closing : List ℕ) → o ≡ q → bytes ≡ closing → told_numbers o bytes ≡ told_numbers q closing
counted o q bytes closing e f = ap (λ (r : Option Reason). told_numbers r bytes) e ∙ ap (λ (l : List ℕ). told_numbers q l) f

-- the same answer, its numbers given by another expression
pub puts_same : {needed result : ℕ} {numbers others before after : List ℕ} → numbers ≡ others
    → Puts needed numbers before after result → Puts needed others before after result
puts_same {needed} {result} {numbers} {others} {before} {after} e puts =
    record {
      returns = puts.returns ∙ ap status_of e;
      writes = puts.writes ∙ ap (λ (z : List ℕ). z ++ drop needed before) e;
    }

-- what `map` ensures, as an equation
pub map_is : {T U E : Type 0} (o : Result T E) (m : Result U E) (Post : T → U → Type 0) (f : T → U)
    → ((x : T) (u : U) → Post x u → u ≡ f x) → MatchResult o (λ x. IsOkAnd m (Post x)) (λ e. m ≡ Err e) → m ≡ mapped f o
map_is (Ok x) (Ok u) Post f k h = ap Ok (k x u h)
map_is (Ok x) (Err e) Post f k h = absurd h
map_is (Err e) m Post f k h = h

-- the answer of write, test or run, from its two numbers
pub size_as : (o : Result ListSize Refusal)
    → result_numbers reason_of 2 (mapped (λ (x : ListSize). x.gates ∷ x.conditional ∷ []) o) ≡ size_numbers (outcome_of o)
unfolding result_numbers answer_numbers size_told outcome_of
size_as (Ok x) = refl
size_as (Err q) = refl

-- the result of a call is equal if its three parts are
same_call : {r r' : ℕ} {answer answer' : List ℕ} {lent lent' : List (List ℕ)} → r ≡ r' → answer ≡ answer' → lent ≡ lent'
    → ◌≡◌ {A = CallResult} (record { returned = r; answer = answer; lent = lent })
    (record { returned = r'; answer = answer'; lent = lent' })
same_call {r} {r'} {answer} {answer'} {lent} {lent'} e f g =
    ap (λ (z : ℕ). record { returned = z; answer = answer; lent = lent }) e
    ∙ ap (λ (z : List ℕ). record { returned = r'; answer = z; lent = lent }) f
    ∙ ap (λ (z : List (List ℕ)). record { returned = r'; answer = answer'; lent = z }) g

module _ (needed : ℕ) (answer : List ℕ) where
  module _ (short : length answer < needed) where
    pub short_status : (numbers : List ℕ) → status needed numbers answer ≡ short_answer
    unfolding status
    short_status numbers = ap (λ (b : Bool). cond b short_answer (status_of numbers)) (lt-ltb (length answer) needed short)

    pub short_answered : (numbers : List ℕ) → answered needed numbers answer ≡ answer
    unfolding answered
    short_answered numbers = ap (λ (b : Bool). cond b answer (numbers ++ drop needed answer)) (lt-ltb (length answer) needed short)

  module _ (enough : needed ≤ length answer) where
    pub room_status : (numbers : List ℕ) → status needed numbers answer ≡ status_of numbers
    unfolding status
    room_status numbers = ap (λ (b : Bool). cond b short_answer (status_of numbers)) (le-ltb (length answer) needed enough)

    pub room_answered : (numbers : List ℕ) → answered needed numbers answer ≡ numbers ++ drop needed answer
    unfolding answered
    room_answered numbers = ap (λ (b : Bool). cond b answer (numbers ++ drop needed answer)) (le-ltb (length answer) needed enough)

    -- what was put into the array is what the call leaves
    pub put_call : (numbers put exit : List ℕ) (r : ℕ) → Puts needed put answer exit r → put ≡ numbers
        → (before after lent : List (List ℕ)) → lent ≡ after
        → ◌≡◌ {A = CallResult} (record { returned = r; answer = exit; lent = lent }) (call_result needed numbers answer before after)
    unfolding call_result
    put_call numbers put exit r puts e before after lent same =
        same_call
        (puts.returns ∙ ap status_of e ∙ sym (room_status numbers))
        (puts.writes ∙ ap (λ (z : List ℕ). z ++ drop needed answer) e ∙ sym (room_answered numbers))
        (same ∙ sym (ap (λ (b : Bool). cond b before after) (le-ltb (length answer) needed enough)))

  -- a call whose answer array is too short changes nothing
  pub short_call : length answer < needed → (numbers : List ℕ) (before after : List (List ℕ))
      → ◌≡◌ {A = CallResult} (record { returned = short_answer; answer = answer; lent = before })
      (call_result needed numbers answer before after)
  unfolding call_result
  short_call short numbers before after =
      same_call (sym (short_status short numbers)) (sym (short_answered short numbers))
      (sym (ap (λ (b : Bool). cond b before after) (lt-ltb (length answer) needed short)))

-- Trustees apart end as the single call does, so its demands hold for them. What they publish depends only on their
-- own tables and the sums.
-- Assumes nothing.
use mathlib.Core.Path.{◌≡◌, ◌∙◌, refl, sym, ap, subst}
use mathlib.Core.Logic.{◌≢◌}
use mathlib.Core.Option.{Option, none, some}
use mathlib.Core.List.{List}
use Prim.Native.Nat.{ℕ, suc, ◌+◌, ◌*◌, ◌≤◌, ◌<◌}
use native.Mathlib.Omega.{arith}
use lib.ListN.{length}
use Rattle.gates.specs.Gate.{Gate, gates_of}
use Rattle.gates.specs.Board.{conditional_count}
use Rattle.gates.proofs.Evaluating.{accepted_list}
use Rattle.gate_levels.specs.Levels.{rounds_of}
use Rattle.jury.specs.Shape.{ballot_bytes}
use Rattle.jury.specs.Reason.{Reason, first_of}
use Rattle.tally.specs.Answer.{refused, accepted, Size, size_of}
use Rattle.tally.specs.SaysWhoWins.{SaysWhoWins}
use Rattle.jury.proofs.Limits.{some_bytes}
use Rattle.trustee_shares.specs.Shares.{part, Held}
use Rattle.trustee_shares.specs.Views.{joined, others_of, Dealing, ballots_of, triples_of, wire_parts_of, published_of, View, view_of}
use Rattle.trustee_shares.proofs.Accuracy.{opened_same}
use Rattle.trustee_shares.proofs.Tables.{length_piece, joined_cong, joined_same, others_cong, others_same}
use Rattle.trustee_rounds.specs.Rounds.{Turn, enters, publishes, closes}
use Rattle.trustee_rounds.specs.Together.{sums_of, turn_of, parts_after, published_after}
use Rattle.trustee_rounds.proofs.Together.{earlier_follows, rounds_make_the_tally}
use Rattle.trustees.specs.Call.{PartTables, Call, dealt_as, wire_parts_in, published_in, view_in}
use Rattle.trustees.specs.Reasons.{trustees_reasons}
use Rattle.trustees.specs.Result.{TrusteesResult, trustees_result_after, trustees_result, closing_sums}
use Rattle.trustees.specs.Demands.{in_one_call, WayAccuracy, OwnListAccuracy, ViewsHide, Tallies}
use Rattle.trustees.proofs.Reasons.{CallPassed, call_passed, result_by}
use Rattle.trustees.proofs.Sums.{call_ready, opened_closing}
use Rattle.trustees.proofs.Demands as one_call
use Rattle.trustee_alone.specs.Demands.{rounds_in, holdings_in, parts_at_end, published_at_end, closing_heard, view_before, apart, NoEarlierView, AsTheOneCall, OwnTablesOnly, AloneHolds}
use Rattle.trustee_alone.proofs.Memory.{memory}
use Rattle.trustee_alone.proofs.Apart.{lengths, calls_of}

-- two turns are equal if triples and sums are
turn_same : (t inputs : ℕ) (gs : List Gate) (d e : Dealing) (r : ℕ) (one other : Held) (p : ℕ) → triples_of gs d p
    ≡ triples_of gs e p → sums_of t (conditional_count gs) one ≡ sums_of t (conditional_count gs) other
    → turn_of t inputs gs d r one p ≡ turn_of t inputs gs e r other p
unfolding turn_of
turn_same t inputs gs d e r one other p f g = rw (f, g)

own_tables_only : OwnTablesOnly
unfolding published_after parts_after
own_tables_only t inputs k gs d e r one other p f g w q =
    let same = turn_same t inputs gs d e r one.published other.published p f g in
    let X : Turn → List ℕ → List ℕ → List ℕ =
    λ u ws published. closes r (rounds_of inputs gs) (conditional_count gs) k (enters u gs 0 0 ws)
    (publishes u (enters u gs 0 0 ws) gs 0 0 published) in
    ap (λ (u : Turn). X u (one.wire_parts p) (one.published p)) same
    ∙ ap (λ (ws : List ℕ). X (turn_of t inputs gs e r other.published p) ws (one.published p)) w
    ∙ ap (λ (l : List ℕ). X (turn_of t inputs gs e r other.published p) (other.wire_parts p) l) q

module _ (c : Call) (size : Size) (yes : (trustees_result c).answer ≡ accepted size) where
  none_applies : first_of (trustees_reasons c) ≡ none
  none_applies = go (first_of (trustees_reasons c)) refl
    where
      go : (o : Option Reason) → first_of (trustees_reasons c) ≡ o → first_of (trustees_reasons c) ≡ none
      go none e = e
      go (some r) e =
          let q : refused r ≡ accepted size =
          sym (ap (λ (x : TrusteesResult). x.answer) (result_by c (some r) e)
          ∙ (unfold trustees_result_after in refl)) ∙ yes in
          let z : ◌≡◌ {A = ℕ} 0 1 = cc in absurd (omega arith)

  is : trustees_result c ≡ trustees_result_after none c
  is = result_by c none none_applies

  passed : CallPassed c
  passed = call_passed c none_applies

  long : length c.ballots ≡ ballot_bytes c.shape
  long = passed.ballots_passed.size

  parts_long : (q : ℕ) → q < c.trustees → length (ballots_of (ballot_bytes c.shape) c.lent.dealing q) ≡ ballot_bytes c.shape
  unfolding ballots_of
  parts_long q h = length_piece c.trustees (ballot_bytes c.shape) c.lent.dealing.ballot_parts q
      (passed.parts.tables.ballot_length ∙ ap (λ (n : ℕ). c.trustees * n) long) h

  made : (p : ℕ) → p < c.trustees
      → ((holdings_in c (suc (rounds_in c))).wire_parts p
      ≡ wire_parts_of c.trustees (ballot_bytes c.shape) (gates_of c.table) c.lent.dealing p)
      × ((holdings_in c (suc (rounds_in c))).published p
      ≡ published_of c.trustees (ballot_bytes c.shape) (gates_of c.table) c.shape.candidates
      c.lent.dealing p)
  made p l =
      let f = accepted_list (ballot_bytes c.shape) c.shape.candidates c.table _ _ passed.test.tests in
      rounds_make_the_tally c.trustees (ballot_bytes c.shape) c.shape.candidates (gates_of c.table)
      c.lent.dealing (some_bytes c.shape passed.test.within) f.enough f.good
      parts_long p l

  -- there are as many ballot bytes as inputs, so the parts are those of the single call
  same_parts : (p : ℕ) → p < c.trustees → parts_at_end c p ≡ wire_parts_in c p
  same_parts p l = (made p l).0 ∙ ap (λ (n : ℕ). wire_parts_of c.trustees n (gates_of c.table) c.lent.dealing p) (sym long)

  joined_is : published_at_end c ≡ joined c.trustees (published_in c)
  joined_is =
      joined_cong c.trustees (holdings_in c (suc (rounds_in c))).published (published_in c)
      (λ (p : ℕ) l. (made p l).1 ∙ ap (λ (n : ℕ). published_of c.trustees n (gates_of c.table)
      c.shape.candidates c.lent.dealing p) (sym long))

  -- the closing bytes are those that the single call opens
  opens : closing_heard c ≡ closing_sums c.trustees c.shape.candidates (wire_parts_in c)
  unfolding closing_heard size_of
  opens =
      opened_closing c (size_of (gates_of c.table)) (call_ready c (size_of (gates_of c.table)) refl passed) (published_at_end c) joined_is

  pub as_the_one_call : AsTheOneCall c
  as_the_one_call =
      record {
        same_parts = same_parts;
        same_published = joined_is ∙ sym (ap (λ (x : TrusteesResult). x.published) is ∙ published_after);
        same_closing = opens ∙ sym (ap (λ (x : TrusteesResult). x.closing) is ∙ closing_after);
      }
    where
      published_after : (trustees_result_after none c).published ≡ joined c.trustees (published_in c)
      published_after = unfold trustees_result_after in refl

      closing_after : (trustees_result_after none c).closing ≡ closing_sums c.trustees c.shape.candidates (wire_parts_in c)
      closing_after = unfold trustees_result_after in refl

  -- what the trustees except q hold and see is the same
  pub same_view : (q : ℕ) → apart.view q c ≡ view_in q c
  unfolding view_of
  same_view q =
      let seen : ℕ → List (List ℕ) → List ℕ → View = λ n parts published. record {
        ballot_parts = others_of c.trustees q (ballots_of n c.lent.dealing);
        dealer_parts = others_of c.trustees q (triples_of (gates_of c.table) c.lent.dealing);
        wire_parts = parts;
        published = published;
      } in
      let held = others_of c.trustees q (parts_at_end c) in
      let final = others_of c.trustees q (wire_parts_in c) in
      ap (λ (n : ℕ). seen n held (published_at_end c)) (sym long)
      ∙ ap (λ (parts : List (List ℕ)). seen (length c.ballots) parts (published_at_end c))
      (others_cong c.trustees q (parts_at_end c) (wire_parts_in c) (λ (p : ℕ) l n. same_parts p l))
      ∙ ap (λ (bits : List ℕ). seen (length c.ballots) final bits) joined_is

-- demands 2 and 3 for trustees apart, from those of the single call
apart_accuracy : (c : Call) (size : Size) → (trustees_result c).answer ≡ accepted size → WayAccuracy apart c size
apart_accuracy c size e =
    let a = (one_call.trustees_hold).tallies.accuracy c size e in
    let s = as_the_one_call c size e in
    record {
      own_size = a.own_size;
      every_wire = λ (x : ℕ) h.
          opened_same c.trustees (λ p. part (parts_at_end c p) x) (λ p. part (wire_parts_in c p) x)
          (λ (p : ℕ) l. ap (λ (ws : List ℕ). part ws x) (s.same_parts p l))
          ∙ a.every_wire x h;
      last_wires = s.same_closing ∙ a.last_wires;
      plain_run = λ tape wires board run f. s.same_closing ∙ a.plain_run tape wires board run f;
    }

apart_own_list : (c : Call) (size : Size) → (trustees_result c).answer ≡ accepted size → OwnListAccuracy in_one_call c → OwnListAccuracy apart c
apart_own_list c size e o =
    let s = as_the_one_call c size e in
    record {
      plain_count = s.same_closing ∙ o.plain_count;
      says_who_wins = subst (SaysWhoWins c.shape c.ballots) (sym s.same_closing) o.says_who_wins;
    }

apart_hidden : (c c' : Call) → ViewsHide in_one_call c c' → ViewsHide apart c c'
apart_hidden c c' h =
    record {
      same_view = λ (q : ℕ) l d accept.
          let one = h.same_view q l d accept in
          let here = same_view (dealt_as c d) _ accept q in (
            one.0,
            (one.1.0, here ∙ one.1.1 ∙ sym (same_view (dealt_as c' one.0) _ one.1.0 q)),
            λ (e : Dealing) f. one.2 e (f.0, sym here ∙ f.1 ∙ same_view (dealt_as c' e) _ f.0 q),
          );
      sees_the_table = λ (q : ℕ) d accept. refl;
    }

-- two views are equal if their four parts are
same_parts_same_view : (x y : View) → x.ballot_parts ≡ y.ballot_parts → x.dealer_parts ≡ y.dealer_parts → x.wire_parts ≡ y.wire_parts
    → x.published ≡ y.published → x ≡ y
same_parts_same_view x y a b c d = rw (a, b, c, d) refl

-- an election with the same shape, list and number of trustees
abbrev alike : Call → (ballots : List ℕ) → PartTables → Call
alike c ballots lent =
    record { shape = c.shape; table = c.table; ballots = ballots; trustees = c.trustees; lent = lent }

module _ (c : Call) (ballots : List ℕ) (lent : PartTables) (first second : Size)
    (a : (trustees_result c).answer ≡ accepted first) (b : (trustees_result (alike c ballots lent)).answer ≡ accepted second)
    (q : ℕ) (same : apart.view q c ≡ apart.view q (alike c ballots lent)) where
  abbrev other : Call
  other = alike c ballots lent

  -- what trustee p ends with is equal
  wires_alike : (p : ℕ) → p < c.trustees → p ≢ q
      → wire_parts_of c.trustees (ballot_bytes c.shape) (gates_of c.table) c.lent.dealing p
      ≡ wire_parts_of c.trustees (ballot_bytes c.shape) (gates_of c.table) lent.dealing p
  wires_alike p l n =
      sym (made c first a p l).0
      ∙ others_same c.trustees q (parts_at_end c) (parts_at_end other) (ap (λ (v : View). v.wire_parts) same) p l n
      ∙ (made other second b p l).0

  published_alike : (p : ℕ) → p < c.trustees
      → published_of c.trustees (ballot_bytes c.shape) (gates_of c.table) c.shape.candidates c.lent.dealing p
      ≡ published_of c.trustees (ballot_bytes c.shape) (gates_of c.table) c.shape.candidates lent.dealing p
  published_alike p l =
      sym (made c first a p l).1
      ∙ joined_same c.trustees (2 * conditional_count (gates_of c.table) + c.shape.candidates)
      (holdings_in c (suc (rounds_in c))).published (holdings_in other (suc (rounds_in c))).published
      (λ (p : ℕ) h. (lengths c (passed c first a) p h (suc (rounds_in c))).1)
      (λ (p : ℕ) h. (lengths other (passed other second b) p h (suc (rounds_in c))).1)
      (ap (λ (v : View). v.published) same) p l
      ∙ (made other second b p l).1

  earlier : (r : ℕ) → r ≤ rounds_in c → view_before r q c ≡ view_before r q other
  earlier r h =
      same_parts_same_view (view_before r q c) (view_before r q other) (ap (λ (v : View). v.ballot_parts) same)
      (ap (λ (v : View). v.dealer_parts) same)
      (others_cong c.trustees q (holdings_in c r).wire_parts (holdings_in other r).wire_parts
      (λ (p : ℕ) l n. (before p l).0 (wires_alike p l n)))
      (joined_cong c.trustees (holdings_in c r).published (holdings_in other r).published
      (λ (p : ℕ) l. (before p l).1 (published_alike p l)))
    where
      before : (p : ℕ) → p < c.trustees
          → (wire_parts_of c.trustees (ballot_bytes c.shape) (gates_of c.table) c.lent.dealing p
          ≡ wire_parts_of c.trustees (ballot_bytes c.shape) (gates_of c.table) lent.dealing p
          → (holdings_in c r).wire_parts p ≡ (holdings_in other r).wire_parts p)
          × (published_of c.trustees (ballot_bytes c.shape) (gates_of c.table) c.shape.candidates c.lent.dealing p
          ≡ published_of c.trustees (ballot_bytes c.shape) (gates_of c.table) c.shape.candidates lent.dealing p
          → (holdings_in c r).published p ≡ (holdings_in other r).published p)
      before p l =
          let f = accepted_list (ballot_bytes c.shape) c.shape.candidates c.table _ _ (passed c first a).test.tests in
          earlier_follows c.trustees (ballot_bytes c.shape) c.shape.candidates (gates_of c.table)
          c.lent.dealing lent.dealing
          (some_bytes c.shape (passed c first a).test.within) f.enough f.good (parts_long c first a)
          (parts_long other second b) r h p l

no_earlier_view : NoEarlierView
no_earlier_view c c' first second shape table trustees a b q same =
    let is : alike c c'.ballots c'.lent ≡ c' = rw (shape, table, trustees) refl in
    subst (λ (e : Call). (r : ℕ) → r ≤ rounds_in c → view_before r q c ≡ view_before r q e) is
    (earlier c c'.ballots c'.lent first second a (ap (λ (e : Call). (trustees_result e).answer) is ∙ b) q
    (same ∙ sym (ap (λ (e : Call). apart.view q e) is)))

tallies : Tallies apart
tallies =
    record {
      accuracy = apart_accuracy;
      own_list = λ c table size answer w own e. apart_own_list c answer e ((one_call.trustees_hold).tallies.own_list c table size answer w own e);
      hiding = λ c c' first second shape table trustees a b closing.
          apart_hidden c c'
          ((one_call.trustees_hold).tallies.hiding c c' first second shape table trustees a b
          (sym (as_the_one_call c first a).same_closing ∙ closing ∙ (as_the_one_call c' second b).same_closing));
    }

pub alone_holds : AloneHolds
alone_holds =
    record {
      memory = memory;
      own_tables_only = own_tables_only;
      tallies = tallies;
      no_earlier_view = no_earlier_view;
      as_the_one_call = as_the_one_call;
      calls = λ c size e p l. calls_of c (passed c size e) p l;
    }

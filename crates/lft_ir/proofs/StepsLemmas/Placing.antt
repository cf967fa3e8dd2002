-- An event that is put where it belongs keeps the order.
use Rattle.std.proofs.Common.{◌≡◌, ◌∙◌, ℕ, ◌+◌, ◌-◌, ◌<◌, ◌≤◌, ◌⊎◌, inl, inr, List, Bool, true, false, if◌then◌else◌, length, slice_get, Some, refl, sym, ap, subst, arith, ⊎_elim}
use Rattle.std.specs.Prelude.{AllPairs}
use Rattle.std.specs.List.{insert}
use Rattle.std.proofs.lemmas.{Bool.cases_lt, List.{get_or_default, Edits.{get_or-insert_at, get_or-insert_below, get_or-insert_above, length-insert}}}
use Rattle.std.proofs.lemmas.Option.{slice_get-get_or}
use lib.ListN.{get_or}
use Rattle.lft_tag.{specs.{declared.Tag.Tag, Tags.{Before, UpTo}}, proofs.Order.{Before-trans, order_cases, split_up}}
use Rattle.lft_ir.specs.{declared.steps.externals.Event.Event, Steps.Inputs.{ComesBefore, InOrder, IsTold}, inner.Steps.Inputs.BelongsAt}

pub comes_before-trans : (x y z : Event) → ComesBefore x y → ComesBefore y z → ComesBefore x z
comes_before-trans x y z (inl a) (inl b) = inl (Before-trans x.tag y.tag z.tag a b)
comes_before-trans x y z (inl a) (inr b) = inl (rw (← b.0) a)
comes_before-trans x y z (inr a) (inl b) = inl (rw (a.0) b)
comes_before-trans x y z (inr a) (inr b) = inr (a.0 ∙ b.0, omega arith)

-- events of which neither comes before the other are of one action at one tag
pub same_place : (x y : Event) → ¬ ComesBefore x y → ¬ ComesBefore y x → (x.tag ≡ y.tag) × (x.action ≡ y.action)
same_place x y n m =
    let one : x.tag ≡ y.tag = ⊎_elim (λ b. absurd (n (inl b))) (λ u. ⊎_elim (λ b. absurd (m (inl b))) (λ e. sym e) (split_up y.tag x.tag u)) (order_cases x.tag y.tag) in
    (one, ⊎_elim (λ l. absurd (n (inr (one, l)))) (λ l. ⊎_elim (λ k. absurd (m (inr (sym one, k)))) (λ k. omega arith) (cases_lt y.action x.action)) (cases_lt x.action y.action))

module _ {X : Type 0} (R : X → X → Type 0) (xs : List X) (i : ℕ) (y : X) (l : i ≤ length xs) where
  behind : (k : ℕ) (d : X) → i < k → get_or (insert xs i y) k d ≡ get_or xs (k - 1) d
  behind k d lt = ap (λ n. get_or (insert xs i y) n d) (let e : k ≡ k - 1 + 1 = omega arith in e) ∙ get_or-insert_above xs i y d (k - 1) (omega arith) l

  at : (k : ℕ) (d : X) → k ≡ i → get_or (insert xs i y) k d ≡ y
  at k d e = ap (λ n. get_or (insert xs i y) n d) e ∙ get_or-insert_at xs i y d l

  all_pairs_insert : AllPairs R xs → ((k : ℕ) (d : X) → k < i → R (get_or xs k d) y) → ((k : ℕ) (d : X) → i ≤ k → k < length xs → R y (get_or xs k d)) → AllPairs R (insert xs i y)
  all_pairs_insert all front rest a b d lt within =
      let long = length-insert xs i y l in
      ⊎_elim
      (λ (bi : b < i). rw (get_or-insert_below xs i y d a (omega arith) l, get_or-insert_below xs i y d b bi l) (all a b d lt (omega arith)))
      (λ (ib : i ≤ b). ⊎_elim
      (λ (ai : a < i). ⊎_elim
      (λ (past : i < b). rw (get_or-insert_below xs i y d a ai l, behind b d past) (all a (b - 1) d (omega arith) (omega arith)))
      (λ (here : b ≤ i). rw (get_or-insert_below xs i y d a ai l, at b d (omega arith)) (front a d ai))
      (cases_lt i b))
      (λ (ia : i ≤ a). ⊎_elim
      (λ (past : i < a). rw (behind a d past, behind b d (omega arith)) (all (a - 1) (b - 1) d (omega arith) (omega arith)))
      (λ (here : a ≤ i). rw (at a d (omega arith), behind b d (omega arith)) (rest (b - 1) d (omega arith) (omega arith)))
      (cases_lt i a))
      (cases_lt a i))
      (cases_lt b i)

module _ (events : List Event) (event : Event) (place : ℕ) (e : Event) (l : 0 < place) (within : place ≤ length events) where
  read : (d : Event) → get_or events (place - 1) d ≡ get_or events (place - 1) e
  read d = get_or_default events (place - 1) d e (omega arith)

  -- where the event before the place comes before the new one, all before the place do
  pub belongs : InOrder events → ComesBefore (get_or events (place - 1) e) event → ((k : ℕ) (d : Event) → place ≤ k → k < length events → ComesBefore event (get_or events k d)) → BelongsAt events event place
  belongs order last rest = record {
    within = within;
    front = λ k d lt.
        let m : ComesBefore (get_or events (place - 1) d) event = rw (read d) last in
        ⊎_elim
        (λ (below : k < place - 1). comes_before-trans (get_or events k d) (get_or events (place - 1) d) event (order k (place - 1) d below (omega arith)) m)
        (λ (here : place - 1 ≤ k). let q : k ≡ place - 1 = omega arith in rw (q) m)
        (cases_lt k (place - 1));
    rest = rest;
  }

  -- the new event comes before one more
  pub one_more : ComesBefore event (get_or events (place - 1) e) → ((k : ℕ) (d : Event) → place ≤ k → k < length events → ComesBefore event (get_or events k d)) → (k : ℕ) (d : Event) → place - 1 ≤ k → k < length events → ComesBefore event (get_or events k d)
  one_more last rest k d from lt =
      ⊎_elim
      (λ (here : k < place). let q : k ≡ place - 1 = omega arith in rw (q, read d) last)
      (λ (past : place ≤ k). rest k d past lt)
      (cases_lt k place)

  pub told : ¬ ComesBefore (get_or events (place - 1) e) event → ¬ ComesBefore event (get_or events (place - 1) e) → IsTold events event
  told n m =
      let same = same_place (get_or events (place - 1) e) event n m in
      record { place = place - 1; other = get_or events (place - 1) e; stands = slice_get-get_or events (place - 1) e (omega arith); same_tag = same.0; same_action = same.1 }

pub in_order-insert : (events : List Event) (event : Event) (place : ℕ) → InOrder events → BelongsAt events event place → InOrder (insert events place event)
in_order-insert events event place order b = all_pairs_insert ComesBefore events place event b.within order b.front b.rest

-- so it does where memory may have been refused
pub in_order-inserted : (old new : List Event) (event : Event) (place : ℕ) (given : Bool) → InOrder old → BelongsAt old event place → new ≡ (if given then insert old place event else old) → InOrder new
in_order-inserted old new event place true order b e = subst (λ (es : List Event). InOrder es) (sym e) (in_order-insert old event place order b)
in_order-inserted old new event place false order b e = subst (λ (es : List Event). InOrder es) (sym e) order

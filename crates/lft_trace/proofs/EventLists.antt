-- Events that come in order.
use Rattle.std.proofs.Common.{◌≡◌, ◌∙◌, ℕ, ◌+◌, ◌-◌, ◌<◌, ◌≤◌, inl, inr, List, [], ◌∷◌, ◌++◌, length, get_or, slice_get, take, Bool, true, false, Some, refl, sym, ap, subst, arith, ⊎_elim}
use Rattle.std.proofs.Math.{ListN.get_or-append, Seq.get_or-append_seam}
use Rattle.std.proofs.lemmas.{Bool.cases_lt, List.{get_or-take, get_or_default, length-append, length-take-le, take_more, Sorted.IsPermutation-push_more}}
use Rattle.std.proofs.lemmas.Option.{get_or_from_slice_get, slice_get-get_or, slice_get_within}
use Rattle.std.specs.List.Sorted.{IsPermutation}
use Rattle.lft_trace.{specs.ExternalTables.{Clash, Has}, proofs.{Ascending.not_itself, Members.has_permuted_back}}
use Rattle.lft_ir.{specs.{Steps.Inputs.{ComesBefore, InOrder}, declared.steps.externals.Event.Event}, proofs.StepsLemmas.Placing.comes_before-trans}

-- events of one action at one tag come in no order
pub no_clash : (x y : Event) → ComesBefore x y → Clash x y → ⊥
no_clash x y (inl a) same = not_itself x.tag y.tag a (sym same.0)
no_clash x y (inr a) same = let less = a.1 in let is = same.1 in omega arith

-- where the last one comes before the event, all do
pub all_before : (events : List Event) (event last : Event) → InOrder events → slice_get events (length events - 1) ≡ Some last → ComesBefore last event → (other : Event) → Has events other → ComesBefore other event
all_before events event last order at before other h =
    let end = length events - 1 in
    let within : h.0 < length events = slice_get_within events h.0 other h.1 in
    let is : get_or events h.0 other ≡ other = get_or_from_slice_get events h.0 other other h.1 in
    let ends : get_or events end other ≡ last = get_or_from_slice_get events end last other at in
    ⊎_elim
    (λ (below : h.0 < end).
    let before_last : ComesBefore (get_or events h.0 other) (get_or events end other) = order h.0 end other below (omega arith) in
    comes_before-trans other last event (subst (λ (x : Event). ComesBefore x last) is (subst (λ (x : Event). ComesBefore (get_or events h.0 other) x) ends before_last)) before)
    (λ (here : end ≤ h.0).
    let q : end ≡ h.0 = omega arith in
    subst (λ (x : Event). ComesBefore x event) (sym ends ∙ ap (λ n. get_or events n other) q ∙ is) before)
    (cases_lt h.0 end)

-- in order with an event behind that all come before
pub in_order_push : (events : List Event) (event : Event) → InOrder events → ((other : Event) → Has events other → ComesBefore other event) → InOrder (events ++ event ∷ [])
in_order_push events event order all i j d lt within =
    let long : length (events ++ event ∷ []) ≡ length events + 1 = length-append events (event ∷ []) in
    ⊎_elim
    (λ (below : j < length events).
    let one : get_or (events ++ event ∷ []) i d ≡ get_or events i d = get_or-append events (event ∷ []) d i (omega arith) in
    let other : get_or (events ++ event ∷ []) j d ≡ get_or events j d = get_or-append events (event ∷ []) d j below in
    rw (one, other) (order i j d lt below))
    (λ (past : length events ≤ j).
    let q : j ≡ length events = omega arith in
    let front : i < length events = omega arith in
    let one : get_or (events ++ event ∷ []) i d ≡ get_or events i d = get_or-append events (event ∷ []) d i front in
    let other : get_or (events ++ event ∷ []) j d ≡ event = ap (λ n. get_or (events ++ event ∷ []) n d) q ∙ get_or-append_seam events event [] d in
    rw (one, other) (all (get_or events i d) (i, slice_get-get_or events i d front)))
    (cases_lt j (length events))

-- an event comes behind those before its place
pub before_place : (events : List Event) (place : ℕ) (d : Event) → InOrder events → place < length events → Has (take place events) d → ComesBefore d (get_or events place d)
before_place events place d order lt h =
    let within : h.0 < length (take place events) = slice_get_within (take place events) h.0 d h.1 in
    let long : length (take place events) ≡ place = length-take-le place events (omega arith) in
    let below : h.0 < place = omega arith in
    let is : get_or events h.0 d ≡ d = sym (get_or-take place events h.0 d below) ∙ get_or_from_slice_get (take place events) h.0 d d h.1 in
    subst (λ (x : Event). ComesBefore x (get_or events place d)) is (order h.0 place d below lt)

-- what has the events before a place, in some order, has the event there too once it is put in
pub put_in : (events : List Event) (place : ℕ) (d : Event) (old new : List Event) (is_new : Bool) → InOrder events → place < length events → IsPermutation (take place events) old
    → (is_new ≡ false → (other : Event) × Has old other × Clash other (get_or events place d)) → (is_new ≡ true → IsPermutation (get_or events place d ∷ old) new) → IsPermutation (take (place + 1) events) new
put_in events place d old new true order lt same there added =
    subst (λ (xs : List Event). IsPermutation xs new) (sym (take_more events place d lt)) (IsPermutation-push_more (take place events) old new (get_or events place d) same (added refl))
put_in events place d old new false order lt same there added =
    let t = there refl in
    let before : ComesBefore t.0 (get_or events place t.0) = before_place events place t.0 order lt (has_permuted_back (take place events) old t.0 same t.1) in
    absurd (no_clash t.0 (get_or events place d) (subst (λ (x : Event). ComesBefore t.0 x) (get_or_default events place t.0 d lt) before) t.2)

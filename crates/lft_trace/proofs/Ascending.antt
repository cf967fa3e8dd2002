-- Ascending lists of events with the same members are one.
use Rattle.std.proofs.Common.{◌≡◌, ◌∙◌, ◌⊎◌, inl, inr, ◌<◌, suc, List, [], ◌∷◌, length, get_or, refl, sym, ap, subst, arith}
use Rattle.std.proofs.lemmas.Option.{slice_get_within, get_or_from_slice_get}
use Rattle.lft_tag.specs.{declared.Tag.Tag, Tags.Before}
use Rattle.lft_trace.{specs.ExternalTables.Has, proofs.EventFacts.{has_cons, has_head, has_none, has_tail}}
use Rattle.lft_ir.specs.{Steps.Inputs.InOrder, declared.steps.externals.Event.Event}

abbrev Follows : Event → Event → Type 0
Follows x y = Before x.tag y.tag ⊎ ((x.tag ≡ y.tag) × (x.action < y.action))

times : (x y : Tag) → x ≡ y → x.time ≡ y.time
times x y h = ap (λ (g : Tag). g.time) h

micros : (x y : Tag) → x ≡ y → x.micro ≡ y.micro
micros x y h = ap (λ (g : Tag). g.micro) h

not_before : (g h : Tag) → Before g h → Before h g → ⊥
not_before g h (inl a) (inl b) = omega arith
not_before g h (inl a) (inr b) = let c = b.0 in omega arith
not_before g h (inr a) (inl b) = let c = a.0 in omega arith
not_before g h (inr a) (inr b) = let c = a.1 in let d = b.1 in omega arith

pub not_itself : (g h : Tag) → Before g h → h ≡ g → ⊥
not_itself g h (inl a) e = let t = times h g e in omega arith
not_itself g h (inr a) e = let t = micros h g e in let c = a.1 in omega arith

not_both_ways : (x y : Event) → Follows x y → Follows y x → ⊥
not_both_ways x y (inl a) (inl b) = not_before x.tag y.tag a b
not_both_ways x y (inl a) (inr b) = not_itself x.tag y.tag a b.0
not_both_ways x y (inr a) (inl b) = not_itself y.tag x.tag b a.0
not_both_ways x y (inr a) (inr b) = let c = a.1 in let d = b.1 in omega arith

first_follows : (x e : Event) (xs : List Event) → InOrder (x ∷ xs) → Has xs e → Follows x e
first_follows x e xs h k =
    let w : k.0 < length xs = slice_get_within xs k.0 e k.1 in
    let f : Follows x (get_or xs k.0 e) = h 0 (suc k.0) e (omega arith) (omega arith) in
    subst (λ (y : Event). Follows x y) (get_or_from_slice_get xs k.0 e e k.1) f

rest_in_order : (x : Event) (xs : List Event) → InOrder (x ∷ xs) → InOrder xs
rest_in_order x xs h = λ i j d lt len. h (suc i) (suc j) d (omega arith) (omega arith)

same_first : (x y : Event) (xs ys : List Event) → InOrder (x ∷ xs) → InOrder (y ∷ ys) → Has (y ∷ ys) x → Has (x ∷ xs) y → x ≡ y
same_first x y xs ys a b in_ys in_xs = elim (has_cons y x ys in_ys) [
  | inl s ↦ sym s
  | inr t ↦ elim (has_cons x y xs in_xs) [
    | inl s ↦ s
    | inr u ↦ absurd (not_both_ways x y (first_follows x y xs a u) (first_follows y x ys b t))
  ]
]

below : (x y : Event) (xs ys : List Event) → InOrder (x ∷ xs) → x ≡ y → ((e : Event) → Has (x ∷ xs) e → Has (y ∷ ys) e) → (e : Event) → Has xs e → Has ys e
below x y xs ys a s same e h = elim (has_cons y e ys (same e (has_tail x e xs h))) [
  | inl t ↦ absurd (let f : Follows x e = first_follows x e xs a h in let q : x ≡ e = s ∙ t in let g : Follows e e = rw q at f in not_both_ways e e g g)
  | inr u ↦ u
]

pub same_events : (xs ys : List Event) → InOrder xs → InOrder ys → ((e : Event) → Has xs e → Has ys e) → ((e : Event) → Has ys e → Has xs e) → xs ≡ ys
same_events [] [] a b to back = refl
same_events [] (y ∷ ys) a b to back = absurd (has_none y (back y (has_head y ys)))
same_events (x ∷ xs) [] a b to back = absurd (has_none x (to x (has_head x xs)))
same_events (x ∷ xs) (y ∷ ys) a b to back =
    let s : x ≡ y = same_first x y xs ys a b (to x (has_head x xs)) (back y (has_head y ys)) in
    let r : xs ≡ ys = same_events xs ys (rest_in_order x xs a) (rest_in_order y ys b) (below x y xs ys a s to) (below y x ys xs b (sym s) back) in
    λ i. s i ∷ r i

-- No rows are a recording so far.
use Rattle.std.proofs.Common.{◌≡◌, ℕ, suc, ◌<◌, ◌≤◌, ◌⊎◌, inl, inr, List, [], ◌∷◌, length, refl, sym, subst, arith, Option, Some, None, ◌&&◌, ◌==◌, eqb-true, slice_get, filter_map, get_or}
use Rattle.std.{specs.List.cons_option, proofs.NetLemmas.Options.cond_some}
use Rattle.lft_tag.{specs.{declared.Tag.Tag, Tags.{Before, same_tag}}, proofs.Order.{Before-irrefl, same_tag_true}}
use Rattle.lft_lists.proofs.Members.{Mem, get_mem, mem_from_filter}
use Rattle.lft_ir.specs.declared.{parts.{Value.Value, Name.{Name, TheVariants.{Port, Action}}}, steps.externals.Event.Event}
use Rattle.lft_model.specs.{Plans.{PlanParts, IsSoundPlan}, Presence.{given, Collision, ClashesAt}, Recorded.SoFar}
use Rattle.lft_model.proofs.{Steps.both_true, Counted.get_or_get}

-- two places of a list at which a filter keeps the items
record TwoKept {X Y : Type 0} (f : X → Option Y) (xs : List X) : Type 0 where
  place : ℕ
  later : ℕ
  first : X
  second : X
  first_value : Y
  second_value : Y
  before : place < later
  is_first : slice_get xs place ≡ Some first
  is_second : slice_get xs later ≡ Some second
  gives_first : f first ≡ Some first_value
  gives_second : f second ≡ Some second_value

-- a filter that keeps two items keeps them from two places
two_kept : {X Y : Type 0} (f : X → Option Y) (xs : List X) → 2 ≤ length (filter_map f xs) → TwoKept f xs
two_kept f [] l = absurd (omega arith)
two_kept {X} {Y} f (x ∷ xs) l = go (f x) refl l (λ k. two_kept f xs k)
  where
    here : (v : Y) → f x ≡ Some v → (ys : List Y) → filter_map f xs ≡ ys → 2 ≤ suc (length ys) → TwoKept f (x ∷ xs)
    here v q [] e l = absurd (omega arith)
    here v q (z ∷ zs) e l =
        let m = mem_from_filter f xs z (subst (λ (us : List Y). Mem z us) (sym e) (inl refl)) in
        let k = get_mem m.0 xs m.1 in
        record { place = 0; later = suc k.0; first = x; second = m.0; first_value = v; second_value = z; before = omega arith; is_first = refl; is_second = k.1; gives_first = q; gives_second = m.2 }

    go : (o : Option Y) → f x ≡ o → 2 ≤ length (cons_option o (filter_map f xs)) → (2 ≤ length (filter_map f xs) → TwoKept f xs) → TwoKept f (x ∷ xs)
    go None q l rest = let r = rest l in let b : r.place < r.later = r.before in record { place = suc r.place; later = suc r.later; first = r.first; second = r.second; first_value = r.first_value; second_value = r.second_value; before = omega arith; is_first = r.is_first; is_second = r.is_second; gives_first = r.gives_first; gives_second = r.gives_second }
    go (Some v) q l rest = here v q (filter_map f xs) refl l

-- an external event that gives an action a value at a tag is one of the action at the tag
given_at : (g : Tag) (a : ℕ) (x : Event) (v : Value) → given g a x ≡ Some v → (x.tag ≡ g) × (x.action ≡ a)
given_at g a x v e =
    let p = both_true (same_tag g x.tag) (a == x.action) (cond_some (same_tag g x.tag && (a == x.action)) x.value v e).0 in
    (sym (same_tag_true g x.tag p.0), sym (eqb-true a x.action p.1))

-- external events alone make no collision
no_collision : (plan : PlanParts) → IsSoundPlan plan → (g : Tag) → ¬ Collision plan [] g
no_collision plan good g c = go c.0 c.1
  where
    apart : (x y : Event) → (Before x.tag y.tag ⊎ ((x.tag ≡ y.tag) × (x.action < y.action))) → (a : ℕ) → (x.tag ≡ g) × (x.action ≡ a) → (y.tag ≡ g) × (y.action ≡ a) → ⊥
    apart x y (inl b) a p q = Before-irrefl g (subst (λ (h : Tag). Before h g) p.0 (subst (λ (h : Tag). Before x.tag h) q.0 b))
    apart x y (inr b) a p q = let l : x.action < y.action = b.1 in let u : x.action ≡ a = p.1 in let v : y.action ≡ a = q.1 in omega arith

    go : (n : Name) → ClashesAt plan [] g n → ⊥
    go (Port p) k = let e = k.is_first.is_last in cc
    go (Action a) k =
        let t = two_kept (given g a) plan.externals.events k in
        let m = get_or_get plan.externals.events t.place t.first t.first t.is_first in
        let n = get_or_get plan.externals.events t.later t.second t.first t.is_second in
        let o = good.in_order t.place t.later t.first t.before n.0 in
        apart t.first t.second (subst (λ (z : Event). Before t.first.tag z.tag ⊎ ((t.first.tag ≡ z.tag) × (t.first.action < z.action))) n.1 (subst (λ (z : Event). Before z.tag (get_or plan.externals.events t.later t.first).tag ⊎ ((z.tag ≡ (get_or plan.externals.events t.later t.first).tag) × (z.action < (get_or plan.externals.events t.later t.first).action))) m.1 o)) a (given_at g a t.first t.first_value t.gives_first) (given_at g a t.second t.second_value t.gives_second)

-- nothing has started, nothing has ended, and nothing collides
pub empty_so_far : (plan : PlanParts) → IsSoundPlan plan → SoFar plan []
empty_so_far plan good = record { rows_well = λ b l o. let e = o.is_row in cc; path = λ k u e. absurd (cc); no_clash = λ g u c. no_collision plan good g c; started = λ i w g r e. absurd (cc) }

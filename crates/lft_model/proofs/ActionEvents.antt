-- What the rows schedule for an action and the external inputs give it: whether there is an event, and how many there are.
use Rattle.std.proofs.Common.{◌≡◌, ℕ, suc, ◌+◌, ◌≤◌, List, [], ◌∷◌, ◌++◌, length, length-append, take, refl, sym, ap, ◌∙◌, arith, true, false, Option, Some, None, IfSome, slice_get, filter_map, is_some}
use Rattle.std.specs.List.{cons_option}
use Rattle.lft_tag.specs.declared.Tag.{Tag}
use Rattle.lft_lists.proofs.{Picked.kept_more, Members.{mem_get, mem_filter, mem_contains, mem_left, mem_right}}
use Rattle.lft_ir.specs.declared.{parts.{Value.Value, Name.TheVariants.Action}, steps.{row.Row.Row, externals.Event.Event}}
use Rattle.lft_model.specs.{Plans.PlanParts, Presence.{At, events_of, given, min_delay, scheduled}}

-- a filter keeps at most as many items as there are
pub length-filter_map : {X Y : Type 0} (h : X → Option Y) (xs : List X) → length (filter_map h xs) ≤ length xs
length-filter_map h [] = omega arith
length-filter_map {X} {Y} h (x ∷ xs) = over (h x) (length-filter_map h xs)
  where
    over : (o : Option Y) → length (filter_map h xs) ≤ length xs → length (cons_option o (filter_map h xs)) ≤ suc (length xs)
    over None l = omega arith
    over (Some y) l = omega arith

-- one more item of which a filter keeps nothing, where it kept none before
pub none_more : {X Y : Type 0} (h : X → Option Y) (xs : List X) (i : ℕ) (x : X) (o : Option Y) → slice_get xs i ≡ Some x → o ≡ h x → is_some o ≡ false → filter_map h (take i xs) ≡ [] → filter_map h (take (i + 1) xs) ≡ []
none_more {X} {Y} h xs i x o e r s z = kept_more h xs i x o e r ∙ go o s
  where
    go : (o : Option Y) → is_some o ≡ false → filter_map h (take i xs) ++ cons_option o [] ≡ []
    go None q = rw z refl
    go (Some y) q = absurd (cc)

-- how many of the items before a place a filter keeps
pub record IsCountTo {X Y : Type 0} (h : X → Option Y) (xs : List X) (i n : ℕ) : Type 0 where
  pub few : n ≤ i
  pub counted : n ≡ length (filter_map h (take i xs))

-- the count grows by what is kept of the item at the place
count_more : {X Y : Type 0} (h : X → Option Y) (xs : List X) (i n m : ℕ) (x : X) (o : Option Y) → slice_get xs i ≡ Some x → o ≡ h x → m ≡ n + length (cons_option o []) → length (cons_option o []) ≤ 1 → IsCountTo h xs i n → IsCountTo h xs (i + 1) m
count_more h xs i n m x o e r q l k =
    let few : n ≤ i = k.few in
    let counted : n ≡ length (filter_map h (take i xs)) = k.counted in
    let more : length (filter_map h (take (i + 1) xs)) ≡ length (filter_map h (take i xs)) + length (cons_option o []) = ap length (kept_more h xs i x o e r) ∙ length-append (filter_map h (take i xs)) (cons_option o []) in
    record { few = omega arith; counted = omega arith }

-- an item that is kept is one more
pub count_one : {X Y : Type 0} (h : X → Option Y) (xs : List X) (i n m : ℕ) (x : X) (o : Option Y) → slice_get xs i ≡ Some x → o ≡ h x → is_some o ≡ true → m ≡ n + 1 → IsCountTo h xs i n → IsCountTo h xs (i + 1) m
count_one h xs i n m x None e r s q k = absurd (cc)
count_one h xs i n m x (Some y) e r s q k = count_more h xs i n m x (Some y) e r q (omega arith) k

-- an item that isn't kept leaves the count as it is
pub count_none : {X Y : Type 0} (h : X → Option Y) (xs : List X) (i n m : ℕ) (x : X) (o : Option Y) → slice_get xs i ≡ Some x → o ≡ h x → is_some o ≡ false → m ≡ n → IsCountTo h xs i n → IsCountTo h xs (i + 1) m
count_none h xs i n m x None e r s q k = count_more h xs i n m x None e r (omega arith) (omega arith) k
count_none h xs i n m x (Some y) e r s q k = absurd (cc)

-- what a row schedules for the action is the value of an event
pub at_row : (plan : PlanParts) (t : List Row) (g : Tag) (a i : ℕ) (row : Row) (o : Option Value) → slice_get t i ≡ Some row → o ≡ scheduled g a (min_delay plan.program a) row → IfSome o (λ v. At plan t g (Action a) v)
at_row plan t g a i row None e q = tt
at_row plan t g a i row (Some v) e q = mem_contains v (events_of plan t g a) (mem_left v (filter_map (scheduled g a (min_delay plan.program a)) t) (filter_map (given g a) plan.externals.events) (mem_filter (scheduled g a (min_delay plan.program a)) row v t (mem_get t i row e) (sym q)))

-- what an external event gives the action is the value of an event
pub at_event : (plan : PlanParts) (t : List Row) (g : Tag) (a i : ℕ) (event : Event) (o : Option Value) → slice_get plan.externals.events i ≡ Some event → o ≡ given g a event → IfSome o (λ v. At plan t g (Action a) v)
at_event plan t g a i event None e q = tt
at_event plan t g a i event (Some v) e q = mem_contains v (events_of plan t g a) (mem_right v (filter_map (scheduled g a (min_delay plan.program a)) t) (filter_map (given g a) plan.externals.events) (mem_filter (given g a) event v plan.externals.events (mem_get plan.externals.events i event e) (sym q)))

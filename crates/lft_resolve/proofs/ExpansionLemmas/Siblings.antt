-- The instances that one instance contains, in the order of a walk.
use Rattle.std.proofs.Common.{◌≡◌, ◌≢◌, ℕ, zero, suc, ◌+◌, ◌<◌, ◌≤◌, ◌⊎◌, inl, inr, List, [], ◌∷◌, ◌++◌, length, refl, sym, ap, ◌∙◌, subst, arith, Option, Some, None, slice_get, slice_set, length-append, map}
use Rattle.std.{specs.Option.option_and_then, proofs.lemmas.{Bool.{cases_lt, cases_eq}, Option.slice_get_within}}
use Rattle.lft_lists.proofs.Places.{get_there, get_written, get_unwritten, get_write_cases, length_written, get_push, get_last, get_push_cases, push_apart, same_some}
use Rattle.lft_resolve.specs.{declared.expansion.walk.{Contents.Contents, Instance.Instance}, Expansion.Paths.{along, PathBefore}}
use Rattle.lft_resolve.specs.inner.Expansion.{Contents.{contained, IsWalk}, Children.{IsChild, AreChildren, child_of}}
use Rattle.lft_resolve.proofs.ExpansionLemmas.{Orders.{before_itself, apart_before, apart_kids, along_at, along_kid}, Walks.{count, has_kids}}
use Rattle.lft_resolve.proofs.ExpansionLemmas.Unique.{before_both}

-- a path stands at one place
path_once : (table : List Contents) (main : ℕ) (made : List Instance) (w : IsWalk table main made) (m n : ℕ) (p : List ℕ) → slice_get w.paths m ≡ Some p → slice_get w.paths n ≡ Some p → m ≡ n
path_once table main made w m n p a b = go (cases_lt m n) (cases_lt n m)
  where
    go : (m < n) ⊎ (n ≤ m) → (n < m) ⊎ (m ≤ n) → m ≡ n
    go (inl l) r = absurd (before_itself p (w.in_order.in_order m n p p a b l))
    go (inr l) (inl r) = absurd (before_itself p (w.in_order.in_order n m p p b a r))
    go (inr l) (inr r) = omega arith

path_at : (table : List Contents) (main : ℕ) (made : List Instance) (w : IsWalk table main made) (m : ℕ) (i : Instance) → slice_get made m ≡ Some i → (p : List ℕ) × (slice_get w.paths m ≡ Some p)
path_at table main made w m i e = let l = slice_get_within made m i e in let s = w.as_long in get_there w.paths m (omega arith)

instance_of : (table : List Contents) (main : ℕ) (made : List Instance) (w : IsWalk table main made) (m : ℕ) (p : List ℕ) → slice_get w.paths m ≡ Some p → (i : Instance) × (slice_get made m ≡ Some i)
instance_of table main made w m p e = let l = slice_get_within w.paths m p e in let s = w.as_long in get_there made m (omega arith)

pub parent_before : (table : List Contents) (main : ℕ) (made : List Instance) → IsWalk table main made → (m : ℕ) (i : Instance) → slice_get made m ≡ Some i → 0 < m → i.parent < m
parent_before table main made w m i e l = let p = path_at table main made w m i e in ((w.each m i p.0 e p.1).later l).1

-- the path of a child is its parent's and its place
abbrev Below : List (List ℕ) → ℕ → ℕ → ℕ → Type 0
Below paths n place m = (above : List ℕ) × (slice_get paths n ≡ Some above) × (slice_get paths m ≡ Some (above ++ place ∷ []))

below_of : (table : List Contents) (main : ℕ) (made : List Instance) (w : IsWalk table main made) (n place m : ℕ) → IsChild made n place m → Below w.paths n place m
below_of table main made w n place m c =
    let p = path_at table main made w m c.0 c.1 in
    let r = (w.each m c.0 p.0 c.1 p.1).later c.2 in
    let e : r.0 ++ place ∷ [] ≡ p.0 = ap (λ k. r.0 ++ k ∷ []) (sym c.4) ∙ r.3 in
    (r.0, subst (λ k. slice_get w.paths k ≡ Some r.0) c.3 r.2, p.1 ∙ ap Some (sym e))

pub one_child : (table : List Contents) (main : ℕ) (made : List Instance) → IsWalk table main made → (n place m k : ℕ) → IsChild made n place m → IsChild made n place k → m ≡ k
one_child table main made w n place m k a b =
    let p = below_of table main made w n place m a in
    let q = below_of table main made w n place k b in
    let e : p.0 ≡ q.0 = same_some (slice_get w.paths n) p.0 q.0 p.1 q.1 in
    path_once table main made w m k (q.0 ++ place ∷ []) (subst (λ x. slice_get w.paths m ≡ Some (x ++ place ∷ [])) e p.2) q.2

child_at : (table : List Contents) (main : ℕ) (made : List Instance) (w : IsWalk table main made) (n place m : ℕ) → Below w.paths n place m → IsChild made n place m
child_at table main made w n place m b = go (cases_lt 0 m)
  where
    i : (i : Instance) × (slice_get made m ≡ Some i)
    i = instance_of table main made w m (b.0 ++ place ∷ []) b.2

    go : (0 < m) ⊎ (m ≤ 0) → IsChild made n place m
    go (inl l) =
        let r = (w.each m i.0 (b.0 ++ place ∷ []) i.1 b.2).later l in
        let s = push_apart r.0 b.0 i.0.place place r.3 in
        (i.0, i.1, l, path_once table main made w i.0.parent n b.0 (subst (λ x. slice_get w.paths i.0.parent ≡ Some x) s.0 r.2) b.1, s.1)
    go (inr l) = absurd (let f = (w.each m i.0 (b.0 ++ place ∷ []) i.1 b.2).first (omega arith) in let q : length (b.0 ++ place ∷ []) ≡ 0 = ap length f in let s = length-append b.0 (place ∷ []) in omega arith)

-- an instance stands after those at the earlier places of the same one
pub earlier_child : (table : List Contents) (main : ℕ) (made : List Instance) → IsWalk table main made → (n place m earlier : ℕ) → IsChild made n place m → earlier < place → (k : ℕ) × (k < m) × IsChild made n earlier k
earlier_child table main made w n place m earlier c l = (at.0, before (cases_lt at.0 m) (cases_eq at.0 m), child_at table main made w n earlier at.0 (b.0, b.1, at.1))
  where
    b : Below w.paths n place m
    b = below_of table main made w n place m c

    outer : (i : Instance) × (slice_get made n ≡ Some i)
    outer = instance_of table main made w n b.0 b.1

    leads : along (contained table) main b.0 ≡ Some outer.0.reactor
    leads = (w.each n outer.0 b.0 outer.1 b.1).leads

    inner : along (contained table) outer.0.reactor (place ∷ []) ≡ Some c.0.reactor
    inner = sym (along_at (contained table) main outer.0.reactor b.0 (place ∷ []) leads) ∙ (w.each m c.0 (b.0 ++ place ∷ []) c.1 b.2).leads

    step : (o : Option ℕ) → contained table outer.0.reactor place ≡ o → option_and_then (λ y. along (contained table) y []) o ≡ Some c.0.reactor → place < count table outer.0.reactor
    step None e f = absurd (cc)
    step (Some y) e f = (has_kids table outer.0.reactor).within place y e

    there : (y : ℕ) × (contained table outer.0.reactor earlier ≡ Some y)
    there = (has_kids table outer.0.reactor).there earlier (let s = step (contained table outer.0.reactor place) refl inner in omega arith)

    at : (k : ℕ) × (slice_get w.paths k ≡ Some (b.0 ++ earlier ∷ []))
    at = w.in_order.all (b.0 ++ earlier ∷ []) (there.0, along_kid (contained table) main outer.0.reactor there.0 b.0 earlier leads there.1)

    sooner : PathBefore (b.0 ++ earlier ∷ []) (b.0 ++ place ∷ [])
    sooner = apart_before (b.0 ++ earlier ∷ []) (b.0 ++ place ∷ []) (apart_kids b.0 earlier place l)

    before : (at.0 < m) ⊎ (m ≤ at.0) → (at.0 ≡ m) ⊎ (at.0 ≡ m → ⊥) → at.0 < m
    before (inl g) q = g
    before (inr g) (inl q) = absurd (let s : b.0 ++ earlier ∷ [] ≡ b.0 ++ place ∷ [] = same_some (slice_get w.paths m) (b.0 ++ earlier ∷ []) (b.0 ++ place ∷ []) (subst (λ k. slice_get w.paths k ≡ Some (b.0 ++ earlier ∷ [])) q at.1) b.2 in let t : earlier ≡ place = (push_apart b.0 b.0 earlier place s).1 in omega arith)
    before (inr g) (inr q) = absurd (before_both (b.0 ++ earlier ∷ []) (b.0 ++ place ∷ []) sooner (w.in_order.in_order m at.0 (b.0 ++ place ∷ []) (b.0 ++ earlier ∷ []) b.2 at.1 (elim (cases_lt m at.0) [ inl h ↦ h | inr h ↦ absurd (q (omega arith)) ])))

-- the rows of the first instances
pub record Filled (made : List Instance) (rows : List (List ℕ)) (number : ℕ) : Type 0 where
  pub as_long : length rows ≡ number
  pub each : (n place m : ℕ) → child_of rows n place ≡ Some m → IsChild made n place m × (m < number)
  pub all : (n place m : ℕ) → IsChild made n place m → m < number → child_of rows n place ≡ Some m

child_row : (rows : List (List ℕ)) (n place : ℕ) (row : List ℕ) → slice_get rows n ≡ Some row → child_of rows n place ≡ slice_get row place
child_row rows n place row e = ap (option_and_then (λ r. slice_get r place)) e

child_in : (rows : List (List ℕ)) (n place m : ℕ) → child_of rows n place ≡ Some m → (row : List ℕ) × (slice_get rows n ≡ Some row) × (slice_get row place ≡ Some m)
child_in rows n place m e = go (slice_get rows n) refl
  where
    go : (o : Option (List ℕ)) → slice_get rows n ≡ o → (row : List ℕ) × (slice_get rows n ≡ Some row) × (slice_get row place ≡ Some m)
    go None f = absurd (let g : child_of rows n place ≡ None = ap (option_and_then (λ r. slice_get r place)) f in cc)
    go (Some row) f = (row, f, sym (child_row rows n place row f) ∙ e)

-- the next instance goes to the end of its parent's row
pub filled_more : (table : List Contents) (main : ℕ) (made : List Instance) → IsWalk table main made → (rows : List (List ℕ)) (number : ℕ) (i : Instance) (row : List ℕ) → Filled made rows number → slice_get made number ≡ Some i → 0 < number → slice_get (rows ++ [] ∷ []) i.parent ≡ Some row → Filled made (slice_set (rows ++ [] ∷ []) i.parent (row ++ number ∷ [])) (number + 1)
filled_more table main made w rows number i row f e pos r = record {
  as_long = length_written (rows ++ [] ∷ []) i.parent (row ++ number ∷ []) ∙ length-append rows ([] ∷ []) ∙ ap (λ k. k + 1) f.as_long;
  each = λ n place m g. let c = child_in (slice_set (rows ++ [] ∷ []) i.parent (row ++ number ∷ [])) n place m g in each n place m c.0 c.2 (get_write_cases (rows ++ [] ∷ []) i.parent n (row ++ number ∷ []) c.0 room c.1);
  all = λ n place m c l. all n place m c (cases_lt m number) (cases_eq n i.parent) l;
}
  where
    earlier : i.parent < number
    earlier = parent_before table main made w number i e pos

    room : i.parent < length (rows ++ [] ∷ [])
    room = slice_get_within (rows ++ [] ∷ []) i.parent row r

    here : slice_get rows i.parent ≡ Some row
    here = elim (get_push_cases rows [] i.parent row r) [ inl a ↦ a | inr a ↦ absurd (let s = f.as_long in let q : i.parent ≡ length rows = a.0 in omega (arith, earlier)) ]

    it : IsChild made i.parent i.place number
    it = (i, e, pos, refl, refl)

    below : length row < i.place → ⊥
    below l =
        let s = earlier_child table main made w i.parent i.place number (length row) it l in
        let g : slice_get row (length row) ≡ Some s.0 = sym (child_row rows i.parent (length row) row here) ∙ f.all i.parent (length row) s.0 s.2 s.1 in
        let k = slice_get_within row (length row) s.0 g in
        omega arith

    above : i.place < length row → ⊥
    above l =
        let m = get_there row i.place l in
        let c = f.each i.parent i.place m.0 (child_row rows i.parent i.place row here ∙ m.1) in
        let q = one_child table main made w i.parent i.place m.0 number c.0 it in
        let k : m.0 < number = c.1 in
        omega arith

    next : length row ≡ i.place
    next = elim (cases_lt (length row) i.place) [ inl l ↦ absurd (below l) | inr g ↦ elim (cases_lt i.place (length row)) [ inl l ↦ absurd (above l) | inr h ↦ omega arith ] ]

    Is : ℕ → ℕ → ℕ → Type 0
    Is n place m = IsChild made n place m × (m < number + 1)

    old : (n place m : ℕ) → child_of rows n place ≡ Some m → Is n place m
    old n place m g = let c = f.each n place m g in let l : m < number = c.1 in (c.0, omega arith)

    in_row : (n place m : ℕ) → n ≡ i.parent → (slice_get row place ≡ Some m) ⊎ ((place ≡ length row) × (number ≡ m)) → Is n place m
    in_row n place m q (inl a) = old n place m (subst (λ x. child_of rows x place ≡ Some m) (sym q) (child_row rows i.parent place row here ∙ a))
    in_row n place m q (inr a) = let s : number ≡ m = a.1 in ((i, sym (ap (slice_get made) s) ∙ e, omega arith, sym q, sym (a.0 ∙ next)), omega arith)

    elsewhere : (n place m : ℕ) (line : List ℕ) → slice_get line place ≡ Some m → (slice_get rows n ≡ Some line) ⊎ ((n ≡ length rows) × ([] ≡ line)) → Is n place m
    elsewhere n place m line g (inl a) = old n place m (child_row rows n place line a ∙ g)
    elsewhere n place m line g (inr a) = absurd (let z : slice_get [] place ≡ Some m = subst (λ x. slice_get x place ≡ Some m) (sym a.1) g in cc)

    each : (n place m : ℕ) (line : List ℕ) → slice_get line place ≡ Some m → ((n ≡ i.parent) × (row ++ number ∷ [] ≡ line)) ⊎ ((n ≢ i.parent) × (slice_get (rows ++ [] ∷ []) n ≡ Some line)) → Is n place m
    each n place m line g (inl a) = in_row n place m a.0 (get_push_cases row number place m (subst (λ x. slice_get x place ≡ Some m) (sym a.1) g))
    each n place m line g (inr a) = elsewhere n place m line g (get_push_cases rows [] n line a.1)

    New : List (List ℕ)
    New = slice_set (rows ++ [] ∷ []) i.parent (row ++ number ∷ [])

    written : slice_get New i.parent ≡ Some (row ++ number ∷ [])
    written = get_written (rows ++ [] ∷ []) i.parent (row ++ number ∷ []) room

    at_last : (place m : ℕ) → place ≡ i.place → m ≡ number → child_of New i.parent place ≡ Some m
    at_last place m p q = child_row New i.parent place (row ++ number ∷ []) written ∙ ap (slice_get (row ++ number ∷ [])) (p ∙ sym next) ∙ get_last row number ∙ ap Some (sym q)

    kept : (n place m : ℕ) → child_of rows n place ≡ Some m → (n ≡ i.parent) ⊎ (n ≡ i.parent → ⊥) → child_of New n place ≡ Some m
    kept n place m g (inl q) = subst (λ x. child_of New x place ≡ Some m) (sym q) (child_row New i.parent place (row ++ number ∷ []) written ∙ get_push row number place m (sym (child_row rows i.parent place row here) ∙ subst (λ x. child_of rows x place ≡ Some m) q g))
    kept n place m g (inr q) = let c = child_in rows n place m g in child_row New n place c.0 (get_unwritten (rows ++ [] ∷ []) i.parent n (row ++ number ∷ []) q ∙ get_push rows [] n c.0 c.1) ∙ c.2

    all : (n place m : ℕ) → IsChild made n place m → (m < number) ⊎ (number ≤ m) → (n ≡ i.parent) ⊎ (n ≡ i.parent → ⊥) → m < number + 1 → child_of New n place ≡ Some m
    all n place m c (inl l) q g = kept n place m (f.all n place m c l) q
    all n place m c (inr l) q g =
        let s : m ≡ number = omega arith in
        let t : c.0 ≡ i = same_some (slice_get made number) c.0 i (subst (λ k. slice_get made k ≡ Some c.0) s c.1) e in
        subst (λ x. child_of New x place ≡ Some m) (sym (ap (λ x. x.parent) t) ∙ c.3) (at_last place m (sym c.4 ∙ ap (λ x. x.place) t) s)

pub filled_end : (made : List Instance) (rows : List (List ℕ)) (number : ℕ) → Filled made rows number → length made ≤ number → AreChildren made rows
filled_end made rows number f l n place m = ((λ e. (f.each n place m e).0), (λ c. f.all n place m c (let k = slice_get_within made m c.0 c.1 in omega arith)))

pub map_set : {X Y : Type 0} (f : X → Y) (xs : List X) (i : ℕ) (y : X) → map f (slice_set xs i y) ≡ slice_set (map f xs) i (f y)
map_set f [] i y = refl
map_set f (x ∷ xs) zero y = refl
map_set f (x ∷ xs) (suc i) y = ap (λ l. f x ∷ l) (map_set f xs i y)

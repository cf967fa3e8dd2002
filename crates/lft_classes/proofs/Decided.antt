-- Which parameters reactors need.
use Rattle.std.proofs.Common.{◌≡◌, ◌≢◌, ◌↔◌, ◌⊎◌, ◌<◌, ◌+◌, ℕ, Bool, true, inl, inr, List, Option, Some, Vec, length, option_map, slice_get, slice_set, string_bytes, refl, sym, ap, subst, ◌∙◌, arith}
use Rattle.std.specs.Prelude.{codes}
use Rattle.std.{specs.{Global.Global, Option.option_and_then}, proofs.lemmas.{Bool.cases_eq, Option.slice_get_within}}
use Rattle.lft_lists.proofs.Mapped.{mapped, mapped_from}
use Rattle.lft_lists.proofs.Places.{Some_same, contains_at, get_push, get_push_cases, get_there, get_unwritten, get_write_cases, same_some}
use Rattle.lft_whole.specs.declared.tree.{Instance.Instance, Member.Member}
use Rattle.lft_classes.specs.declared.{scopes.ReactorNames.ReactorNames, shapes.{Child.Child, Inherited.Inherited, Shape.Shape}}
use Rattle.lft_classes.specs.inner.{Built.{AreNoted, Core, IsBuilt, core, cores, instance_of}, Chains.extended_reactor, Makings.AreShapes}
use Rattle.lft_classes.specs.inner.Needs.{AreNeedMarks, HasNeed, IsReadyToDecide, IsReadyAt, PassesOn, HasMember, IsDecided, IsIndexFree, IsMarkedNeeded, IsUnmarkedAt, IsParameter, NeedsName, NeedsNumber, by_instance, by_member}
use Rattle.lft_classes.specs.inner.{Shapes.{child_at, inside, tables}, Walks.{IsTopologicalOrder, Ways, nothing, one}}
use Rattle.lft_classes.specs.Needs.{Gives, NamedFor, Need, Times, Widths}
use Rattle.lft_classes.proofs.{Building.below_one, Goings.noted_child, Needing.{declared, member_of, one_name}}
use Rattle.lft_whole.specs.declared.tree.Member.TheVariants as member
use Rattle.lft_classes.specs.declared.shapes.OwnThing.TheVariants as thing

-- the shape that is noted in a member is that of its reactor
pub inner_means : (scopes : ReactorNames) (first : ℕ) (shapes : List Shape) (s k : ℕ) (shape : Shape) (m : Inherited) (t : ℕ) (inner : Shape) → AreShapes scopes first (cores shapes) (tables shapes) → slice_get shapes s ≡ Some shape → slice_get shape.members.items k ≡ Some m → inside (tables shapes) s k ≡ Some t → slice_get shapes t ≡ Some inner → instance_of scopes (m.file, m.member.now) ≡ Some inner.class.number
inner_means scopes first shapes s k shape m t inner all is_shape is_member is_inside is_inner =
    let outer = mapped core shapes s shape is_shape in
    let within = mapped core shapes t inner is_inner in
    let child = noted_child (tables shapes) s k t is_inside in
    let in_it = all.inside s k child.0 child.1 in
    let same : in_it.outer ≡ core shape = same_some (slice_get (cores shapes) s) in_it.outer (core shape) in_it.is_outer outer in
    let member : in_it.member ≡ m = same_some (slice_get shape.members.items k) in_it.member m (subst (λ (o : Core). slice_get o.members k ≡ Some in_it.member) same in_it.is_member) is_member in
    let inside : in_it.inner ≡ core inner = same_some (slice_get (cores shapes) t) in_it.inner (core inner) (ap (slice_get (cores shapes)) (sym child.2) ∙ in_it.is_inner) within in
    ap (λ (x : Inherited). instance_of scopes (x.file, x.member.now)) (sym member) ∙ in_it.means ∙ ap (λ (o : Core). Some o.class.number) inside

-- the shape that a child of a shape has is noted in it
pub child_inside : (shapes : List Shape) (s k : ℕ) (shape : Shape) (child : Child) → slice_get shapes s ≡ Some shape → child_at shape.children.items k ≡ Some child → inside (tables shapes) s k ≡ Some child.shape
child_inside shapes s k shape child at there =
    let rows : Shape → List (Option Child) = λ x. x.children.items in
    let number_of : Child → ℕ = λ x. x.shape in
    ap (λ o. option_map number_of (option_and_then (λ (l : List (Option Child)). child_at l k) o)) (mapped rows shapes s shape at) ∙ ap (option_map number_of) there

-- what is marked is needed, by its name
pub needs_name : (scopes : ReactorNames) (need : Need) (shapes : List Shape) (t : ℕ) (inner : Shape) (q : List ℕ) (n : ℕ) → IsBuilt scopes (core inner) → IsDecided scopes shapes t → slice_get shapes t ≡ Some inner → IsParameter inner q n → IsMarkedNeeded need inner n → NeedsName scopes need inner.class.number q
needs_name scopes need shapes t inner q n built decided at is marked =
    let s = (decided inner at need n).0 marked in
    subst (NeedsName scopes need inner.class.number) (one_name scopes (core inner) s.0 q n built s.1 is) s.2

-- what a member needs is needed
pub member_needs : (scopes : ReactorNames) (first : ℕ) (shapes : List Shape) (s k : ℕ) (shape : Shape) (m : Inherited) (need : Need) (n : ℕ) → IsReadyAt scopes first shapes s shape k m → HasNeed need shapes shape k m.member.now n → NeedsNumber scopes need shape n
member_needs scopes first shapes s k shape m need n at (inl names) =
    let built = at.ready.are_shapes.built s (core shape) (mapped core shapes s shape at.is_shape) in
    (names.0, names.1, by_member (m.file, m.member.now) (declared scopes (core shape) k m built at.is_member) names.2)
member_needs scopes first shapes s k shape m need n at (inr passes) =
    let all = at.ready.are_shapes in
    let is = passes.is_instance in
    let t = passes.child.shape in
    let inner = passes.inner in
    let is_inside = child_inside shapes s k shape passes.child at.is_shape passes.is_child in
    let means : instance_of scopes (m.file, member.Instance passes.instance) ≡ Some inner.class.number = ap (λ x. instance_of scopes (m.file, x)) (sym is) ∙ inner_means scopes first shapes s k shape m t inner all at.is_shape at.is_member is_inside passes.is_inner in
    let has : HasMember scopes shape.class.number (m.file, member.Instance passes.instance) = subst (λ x. HasMember scopes shape.class.number (m.file, x)) is (declared scopes (core shape) k m (all.built s (core shape) (mapped core shapes s shape at.is_shape)) at.is_member) in
    let h = passes.is_passed in
    let passed = h.1.2 in
    let needed = needs_name scopes need shapes t inner (string_bytes h.1.0.name.text) passed.0 (all.built t (core inner) (mapped core shapes t inner passes.is_inner)) (at.ready.inner k t is_inside) passes.is_inner passed.1 passed.2 in
    let value = passed.3 in
    (value.0, value.2, by_instance m.file passes.instance has means (record { which = h.0; assignment = h.1.0; is_given = h.1.1; has_name = refl; is_word = value.1 }) needed)

-- an instance passes on what it gives
pub instance_passes : (scopes : ReactorNames) (first : ℕ) (shapes : List Shape) (s k : ℕ) (shape : Shape) (m : Inherited) (instance : Instance) (inner : ℕ) (need : Need) (p q : List ℕ) (n : ℕ) → IsReadyAt scopes first shapes s shape k m → m.member.now ≡ member.Instance instance → extended_reactor scopes m.file instance.reactor ≡ Some inner → Gives instance p q → NeedsName scopes need inner p → IsParameter shape q n → PassesOn need shapes shape k m.member.now n
instance_passes scopes first shapes s k shape m instance inner need p q n at is extends gives needs is_parameter =
    let all = at.ready.are_shapes in
    let outer = mapped core shapes s shape at.is_shape in
    let rows : Shape → List (Option Child) = λ x. x.children.items in
    let means : instance_of scopes (m.file, m.member.now) ≡ Some inner = ap (λ x. instance_of scopes (m.file, x)) is ∙ extends in
    let noted = at.ready.all_noted s (core shape) outer k inner m at.is_member means in
    let child = noted_child (tables shapes) s k noted.0 noted.1 in
    let in_it = all.inside s k child.0 child.1 in
    let found = mapped_from core shapes child.0.shape in_it.inner in_it.is_inner in
    let same : in_it.outer ≡ core shape = same_some (slice_get (cores shapes) s) in_it.outer (core shape) in_it.is_outer outer in
    let one : in_it.member ≡ m = same_some (slice_get shape.members.items k) in_it.member m (subst (λ (o : Core). slice_get o.members k ≡ Some in_it.member) same in_it.is_member) at.is_member in
    let given = in_it.gives instance (ap (λ (x : Inherited). x.member.now) one ∙ is) in
    let name = string_bytes gives.assignment.name.text in
    let g = given.1.all gives.assignment (contains_at instance.given.items gives.which gives.assignment gives.is_given) in
    let number = g.0.parameter in
    let named : IsParameter found.0 name number = subst (λ (c : Core). c.things name ≡ Some (thing.Parameter number)) (sym found.2) g.2.0 in
    let is_inside : inside (tables shapes) s k ≡ Some child.0.shape = noted.1 ∙ ap Some (sym child.2) in
    let class : inner ≡ found.0.class.number = Some_same inner found.0.class.number (sym means ∙ inner_means scopes first shapes s k shape m child.0.shape found.0 all at.is_shape at.is_member is_inside found.1) in
    let needed : NeedsName scopes need found.0.class.number name = subst (λ r. NeedsName scopes need r name) class (subst (NeedsName scopes need inner) (sym gives.has_name) needs) in
    record {
      instance = instance;
      is_instance = is;
      child = child.0;
      is_child = sym (ap (option_and_then (λ (l : List (Option Child)). child_at l k)) (mapped rows shapes s shape at.is_shape)) ∙ child.1;
      inner = found.0;
      is_inner = found.1;
      is_passed = (gives.which, (gives.assignment, gives.is_given, (number, named, (at.ready.inner k child.0.shape is_inside found.0 found.1 need number).1 (name, named, needed), (q, gives.is_word, is_parameter))));
    }

-- what is needed a member needs
pub needed_by : (scopes : ReactorNames) (first : ℕ) (shapes : List Shape) (s : ℕ) (shape : Shape) (need : Need) (n : ℕ) → IsReadyToDecide scopes first shapes s → slice_get shapes s ≡ Some shape → (r : ℕ) (q : List ℕ) → NeedsName scopes need r q → r ≡ shape.class.number → IsParameter shape q n → (k : ℕ) × ((m : Inherited) × (slice_get shape.members.items k ≡ Some m) × HasNeed need shapes shape k m.member.now n)
needed_by scopes first shapes s shape need n ready at _ _ (by_member {r = r} {q = q} m has named) same is =
    let built = ready.are_shapes.built s (core shape) (mapped core shapes s shape at) in
    let there = member_of scopes (core shape) m built (subst (λ x. HasMember scopes x m) same has) in
    (there.0, (there.1.0, there.1.1, inl (q, is, subst (λ (x : ℕ × Member). NamedFor need x.1 q) (sym there.1.2) named)))
needed_by scopes first shapes s shape need n ready at _ _ (by_instance {r = r} {inner = inner} {p = p} {q = q} file instance has means gives needs) same is =
    let built = ready.are_shapes.built s (core shape) (mapped core shapes s shape at) in
    let there = member_of scopes (core shape) (file, member.Instance instance) built (subst (λ x. HasMember scopes x (file, member.Instance instance)) same has) in
    let m = there.1.0 in
    let in_file : m.file ≡ file = ap (λ (x : ℕ × Member). x.0) there.1.2 in
    let is_instance : m.member.now ≡ member.Instance instance = ap (λ (x : ℕ × Member). x.1) there.1.2 in
    let extends : extended_reactor scopes m.file instance.reactor ≡ Some inner = ap (λ f. extended_reactor scopes f instance.reactor) in_file ∙ means in
    (there.0, (m, there.1.1, inr (instance_passes scopes first shapes s there.0 shape m instance inner need p q n (record { ready = ready; is_shape = at; is_member = there.1.1 }) is_instance extends gives needs is)))

-- so what the members of a shape need is marked, and that alone
pub decided_by : (scopes : ReactorNames) (first : ℕ) (shapes : List Shape) (s : ℕ) (shape : Shape) (need : Need) (list : List Bool) → IsReadyToDecide scopes first shapes s → slice_get shapes s ≡ Some shape → AreNeedMarks need shapes shape list → (n : ℕ) → (slice_get list n ≡ Some true) ↔ NeedsNumber scopes need shape n
decided_by scopes first shapes s shape need list ready at are n = (there, back)
  where
    there : slice_get list n ≡ Some true → NeedsNumber scopes need shape n
    there marked =
        let h = are.each n marked in
        member_needs scopes first shapes s h.0 shape h.1.0 need n (record { ready = ready; is_shape = at; is_member = h.1.1 }) h.1.2

    back : NeedsNumber scopes need shape n → slice_get list n ≡ Some true
    back g =
        let h = needed_by scopes first shapes s shape need n ready at shape.class.number g.0 g.2 refl g.1 in
        let built = ready.are_shapes.built s (core shape) (mapped core shapes s shape at) in
        let p = (built.has_names g.0 (thing.Parameter n)).0 g.1 in
        let within = slice_get_within shape.parameters.items n p.0 p.1 in
        let was = get_there list n (omega (arith, within, are.count)) in
        are.all n h.0 h.1.0 was.0 was.1 h.1.1 h.1.2

-- what a listed one leads to is listed before it
pub listed_before : (next : Ways) (list : List ℕ) → IsTopologicalOrder next list → (i x k r : ℕ) → slice_get list i ≡ Some x → next x k ≡ Some r → (j : ℕ) × (j < i) × (slice_get list j ≡ Some r)
listed_before next _ nothing i x k r at way = absurd (cc)
listed_before next _ (one xs y behind new below) i x k r at way = elim (get_push_cases xs y i x at) [
  | inl old ↦ (let h = listed_before next xs behind i x k r old way in (h.0, h.1, get_push xs y h.0 r h.2))
  | inr last ↦ (
      let h = below k r (ap (λ z. next z k) last.1 ∙ way) in
      let e = last.0 in
      let within = slice_get_within xs h.0 r h.1 in
      (h.0, omega (arith, e, within), get_push xs y h.0 r h.1)
      )
]

-- a shape with what is decided
pub both_decided : (scopes : ReactorNames) (shape : Shape) (sized timed : Vec Bool Global) → ((n : ℕ) → (slice_get sized.items n ≡ Some true) ↔ NeedsNumber scopes Widths shape n) → ((n : ℕ) → (slice_get timed.items n ≡ Some true) ↔ NeedsNumber scopes Times shape n) → (need : Need) (n : ℕ) → IsMarkedNeeded need (record shape { sized = sized; timed = timed }) n ↔ NeedsNumber scopes need (record shape { sized = sized; timed = timed }) n
both_decided scopes shape sized timed widths times Widths = widths
both_decided scopes shape sized timed widths times Times = times

-- where no bank has a marked `bank_index`, none needs one
pub index_free : (scopes : ReactorNames) (first : ℕ) (shapes : List Shape) (s : ℕ) (shape : Shape) → IsReadyToDecide scopes first shapes s → slice_get shapes s ≡ Some shape → ((k : ℕ) (m : Inherited) → slice_get shape.members.items k ≡ Some m → IsUnmarkedAt shapes shape k m.member.now) → IsIndexFree scopes (cores shapes) (tables shapes) s
index_free scopes first shapes s shape ready at unmarked k n inner need bank is needs = unmarked k bank.entry is_entry bank.instance bank.child w.0 bank.is_instance is_child w.1 bank.is_bank need n is_parameter marked
  where
    outer_is : bank.outer ≡ core shape
    outer_is = same_some (slice_get (cores shapes) s) bank.outer (core shape) bank.is_outer (mapped core shapes s shape at)

    is_entry : slice_get shape.members.items k ≡ Some bank.entry
    is_entry = subst (λ (o : Core). slice_get o.members k ≡ Some bank.entry) outer_is bank.is_entry

    is_child : child_at shape.children.items k ≡ Some bank.child
    is_child = sym (ap (option_and_then (λ (l : List (Option Child)). child_at l k)) (mapped (λ (x : Shape). x.children.items) shapes s shape at)) ∙ bank.is_child

    w : (w : Shape) × (slice_get shapes bank.child.shape ≡ Some w) × (core w ≡ inner)
    w = mapped_from core shapes bank.child.shape inner bank.is_inner

    is_parameter : IsParameter w.0 (codes "bank_index") n
    is_parameter = ap (λ (c : Core). c.things (codes "bank_index")) w.2 ∙ is

    marked : IsMarkedNeeded need w.0 n
    marked = (ready.inner k bank.child.shape (child_inside shapes s k shape bank.child at is_child) w.0 w.1 need n).1 (codes "bank_index", is_parameter, subst (λ (c : Core). NeedsName scopes need c.class.number (codes "bank_index")) (sym w.2) needs)

-- where there is no shape there is no bank
pub index_none : (scopes : ReactorNames) (shapes : List Shape) (s : ℕ) → (s < length shapes → ⊥) → IsIndexFree scopes (cores shapes) (tables shapes) s
index_none scopes shapes s none k n inner need bank is needs = let w = mapped_from core shapes s bank.outer bank.is_outer in none (slice_get_within shapes s w.0 w.1)

-- a shape that is written
pub decided_one : (scopes : ReactorNames) (shapes : List Shape) (i : ℕ) (y : Shape) → i < length shapes → ((need : Need) (n : ℕ) → IsMarkedNeeded need y n ↔ NeedsNumber scopes need y n) → IsDecided scopes (slice_set shapes i y) i
decided_one scopes shapes i y within is shape at = elim (get_write_cases shapes i i y shape within at) [
  | inl this ↦ subst (λ (x : Shape). (need : Need) (n : ℕ) → IsMarkedNeeded need x n ↔ NeedsNumber scopes need x n) this.1 is
  | inr other ↦ absurd (other.0 refl)
]

-- the others stay
pub decided_but : (scopes : ReactorNames) (shapes : List Shape) (i : ℕ) (y : Shape) (s : ℕ) → s ≢ i → IsDecided scopes shapes s → IsDecided scopes (slice_set shapes i y) s
decided_but scopes shapes i y s apart is shape at = is shape (sym (get_unwritten shapes i s y apart) ∙ at)

-- where there is no shape nothing is marked
pub decided_none : (scopes : ReactorNames) (shapes : List Shape) (s : ℕ) → (s < length shapes → ⊥) → IsDecided scopes shapes s
decided_none scopes shapes s none shape at = absurd (none (slice_get_within shapes s shape at))

-- where what came before is decided, the next one can be
pub ready_next : (scopes : ReactorNames) (first : ℕ) (was now : List Shape) (order : List ℕ) (place node : ℕ) → AreShapes scopes first (cores was) (tables was) → AreNoted scopes (cores was) (tables was) → IsTopologicalOrder (inside (tables was)) order → tables now ≡ tables was → cores now ≡ cores was → slice_get order place ≡ Some node → ((j t : ℕ) → j < place → slice_get order j ≡ Some t → IsDecided scopes now t) → IsReadyToDecide scopes first now node
ready_next scopes first was now order place node all noted behind rows same at before = record {
  are_shapes = subst (λ cs. AreShapes scopes first cs (tables now)) (sym same) (subst (AreShapes scopes first (cores was)) (sym rows) all);
  all_noted = subst (λ cs. AreNoted scopes cs (tables now)) (sym same) (subst (AreNoted scopes (cores was)) (sym rows) noted);
  inner = λ k t is. (let h = listed_before (inside (tables was)) order behind place node k t at (ap (λ r. inside r node k) (sym rows) ∙ is) in before h.0 t h.1 h.2);
}

-- and with it what came up to it is
pub decided_next : (scopes : ReactorNames) (old new : List Shape) (order : List ℕ) (place node : ℕ) → slice_get order place ≡ Some node → ((j t : ℕ) → j < place → slice_get order j ≡ Some t → IsDecided scopes old t) → IsDecided scopes new node → ((s : ℕ) → s ≢ node → IsDecided scopes old s → IsDecided scopes new s) → (j t : ℕ) → j < place + 1 → slice_get order j ≡ Some t → IsDecided scopes new t
decided_next scopes old new order place node at before decided kept = below_one (λ j t. IsDecided scopes new t) order place node at (λ j t lt there. still t (before j t lt there) (cases_eq t node)) decided
  where
    still : (t : ℕ) → IsDecided scopes old t → (t ≡ node) ⊎ (t ≡ node → ⊥) → IsDecided scopes new t
    still t was (inl e) = subst (IsDecided scopes new) (sym e) decided
    still t was (inr n) = kept t n was

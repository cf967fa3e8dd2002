use Rattle.std.proofs.Common.{rules, ◌≡◌, ◌+◌, ◌<◌, inl, inr, [], ◌∷◌, ◌++◌, Some, drop, length, get_or, slice_get, slice_set, sym, ap, ◌∙◌, subst, arith}
use Rattle.std.proofs.lemmas.{Bool.cases_eq, Option.slice_get-get_or}
use Rattle.lft_lists.specs.{declared.walk.Stage.TheVariants.{New, Open}, inner.Walking.{Has, IsWalk}}
use Rattle.lft_lists.proofs.Walking.{left_is_open, left_within, top_within, walk_circle, walk_done, walk_enter, walk_on, last_leads}
use Rattle.lft_lists.proofs.walk.walk_from.Goals as goal

pub walk-init : goal.walk-init
walk-init g c =
    let ways = g.W.Ways.ways c.args.ways.now in
    let start = c.args.start in
    let e : c.push.new.self.items ≡ start ∷ [] = c.in_ok-push.ensures.items ∙ ap (λ l. l ++ start ∷ []) c.new-path.ensures.items in
    let entered : IsWalk ways (start + 1) (slice_set c.args.marks.now start Open) c.args.nexts.now (start ∷ []) c.args.order.now.items =
    walk_enter ways start c.args.marks.now c.args.nexts.now [] c.args.order.now.items start (start + 1) (λ a lt. elim (cases_eq a start) [ inl q ↦ inr q | inr n ↦ inl (omega arith) ]) c.requires.walk (c.item_at.ensures ∙ ap Some c.in-New.is) (λ i a last f. absurd (cc))
    in
    rw e entered

pub offset_bounds-nexts-top : goal.offset_bounds-nexts-top
offset_bounds-nexts-top g c =
    let ways = g.W.Ways.ways c.args.ways.now in
    let w = subst (λ l. IsWalk ways (c.args.start + 1) c.walk.marks c.walk.nexts l c.walk.order.items) c.in-Some.ensures.items c.walk.invariant in
    let within : c.in-Some.top < length c.walk.nexts = top_within ways (c.args.start + 1) c.walk.marks c.walk.nexts c.pop.new.self.items c.walk.order.items c.in-Some.top w in
    search rules

pub bounds-nexts-top : goal.bounds-nexts-top
bounds-nexts-top g c =
    let ways = g.W.Ways.ways c.args.ways.now in
    let w = subst (λ l. IsWalk ways (c.args.start + 1) c.walk.marks c.walk.nexts l c.walk.order.items) c.in-Some.ensures.items c.walk.invariant in
    top_within ways (c.args.start + 1) c.walk.marks c.walk.nexts c.pop.new.self.items c.walk.order.items c.in-Some.top w

pub bounds-marks-top : goal.bounds-marks-top
bounds-marks-top g c =
    let ways = g.W.Ways.ways c.args.ways.now in
    let w = subst (λ l. IsWalk ways (c.args.start + 1) c.walk.marks c.walk.nexts l c.walk.order.items) c.in-Some.ensures.items c.walk.invariant in
    let within = top_within ways (c.args.start + 1) c.walk.marks c.walk.nexts c.pop.new.self.items c.walk.order.items c.in-Some.top w in
    let s = c.walk.invariant.as_long in
    omega arith

pub walk-preserved-in_ok-push-in-None : goal.walk-preserved-in_ok-push-in-None
walk-preserved-in_ok-push-in-None g c =
    let ways = g.W.Ways.ways c.args.ways.now in
    let top = c.in-Some.top in
    let w = subst (λ l. IsWalk ways (c.args.start + 1) c.walk.marks c.walk.nexts l c.walk.order.items) c.in-Some.ensures.items c.walk.invariant in
    let within = top_within ways (c.args.start + 1) c.walk.marks c.walk.nexts c.pop.new.self.items c.walk.order.items top w in
    rw c.in_ok-push-in-None.ensures.items (walk_done ways (c.args.start + 1) c.walk.marks c.walk.nexts c.pop.new.self.items c.walk.order.items top w (get_or c.walk.nexts top 0) (slice_get-get_or c.walk.nexts top 0 within) c.in-None.ensures.none)

pub offset_bounds-nexts-top-in-Some-first_left : goal.offset_bounds-nexts-top-in-Some-first_left
offset_bounds-nexts-top-in-Some-first_left g c =
    let ways = g.W.Ways.ways c.args.ways.now in
    let w = subst (λ l. IsWalk ways (c.args.start + 1) c.walk.marks c.walk.nexts l c.walk.order.items) c.in-Some.ensures.items c.walk.invariant in
    let within : c.in-Some.top < length c.walk.nexts = top_within ways (c.args.start + 1) c.walk.marks c.walk.nexts c.pop.new.self.items c.walk.order.items c.in-Some.top w in
    search rules

pub bounds-nexts-top-in-Some-first_left : goal.bounds-nexts-top-in-Some-first_left
bounds-nexts-top-in-Some-first_left g c =
    let ways = g.W.Ways.ways c.args.ways.now in
    let w = subst (λ l. IsWalk ways (c.args.start + 1) c.walk.marks c.walk.nexts l c.walk.order.items) c.in-Some.ensures.items c.walk.invariant in
    top_within ways (c.args.start + 1) c.walk.marks c.walk.nexts c.pop.new.self.items c.walk.order.items c.in-Some.top w

pub item_at-requires-in-Some-first_left : goal.item_at-requires-in-Some-first_left
item_at-requires-in-Some-first_left g c = left_within c.walk.marks c.in-Some-first_left.next c.in-Some-first_left.ensures.some.1

pub path_from-requires : goal.path_from-requires
path_from-requires g c =
    let next = c.in-Some-first_left.next in
    let is : slice_get c.walk.marks next ≡ Some Open = left_is_open c.walk.marks next c.item_at-in-Some-first_left.result c.item_at-in-Some-first_left.ensures c.in-Some-first_left.ensures.some.1 c.in_default-item_at.not-New in
    let same : c.deref.result.now ≡ c.walk.path.items = c.deref.ensures.value ∙ c.in_ok-push-in-Some-first_left.ensures.items ∙ sym c.in-Some.ensures.items in
    subst (λ l. Has l next) (sym same) (c.walk.invariant.on_path next is)

pub returns-in_default-item_at-clause-circle : goal.returns-in_default-item_at-clause-circle
returns-in_default-item_at-clause-circle g c =
    let ways = g.W.Ways.ways c.args.ways.now in
    let top = c.in-Some.top in
    let next = c.in-Some-first_left.next in
    let whole = c.pop.new.self.items ++ top ∷ [] in
    let w = subst (λ l. IsWalk ways (c.args.start + 1) c.walk.marks c.walk.nexts l c.walk.order.items) c.in-Some.ensures.items c.walk.invariant in
    let same : c.deref.result.now ≡ whole = c.deref.ensures.value ∙ c.in_ok-push-in-Some-first_left.ensures.items in
    let found = c.in_ok-path_from-in_default-item_at.ensures in
    walk_circle ways (c.args.start + 1) c.walk.marks c.walk.nexts c.pop.new.self.items c.walk.order.items top w next found.0 c.in_ok-path_from-in_default-item_at.field-0.items (c.in-Some-first_left.place, c.in-Some-first_left.ensures.some.0) (subst (λ l. slice_get l found.0 ≡ Some next) same found.1) (found.2 ∙ ap (drop found.0) same)

pub bounds-marks-next : goal.bounds-marks-next
bounds-marks-next g c = left_within c.walk.marks c.in-Some-first_left.next c.in-Some-first_left.ensures.some.1

pub walk-preserved : goal.walk-preserved
walk-preserved g c =
    let ways = g.W.Ways.ways c.args.ways.now in
    let start = c.args.start + 1 in
    let marks = c.walk.marks in
    let rest = c.pop.new.self.items in
    let top = c.in-Some.top in
    let place = c.in-Some-first_left.place in
    let next = c.in-Some-first_left.next in
    let left = c.in-Some-first_left.ensures.some in
    let w = subst (λ l. IsWalk ways start marks c.walk.nexts l c.walk.order.items) c.in-Some.ensures.items c.walk.invariant in
    let within = top_within ways start marks c.walk.nexts rest c.walk.order.items top w in
    let on = walk_on ways start marks c.walk.nexts rest c.walk.order.items top w (get_or c.walk.nexts top 0) place (slice_get-get_or c.walk.nexts top 0 within) left.2 in
    let new : slice_get marks next ≡ Some New = c.item_at-in-Some-first_left.ensures ∙ ap Some c.in-New-item_at.is in
    let all : c.push-in-Some-first_left-2.new.self.items ≡ (rest ++ top ∷ []) ++ next ∷ [] = c.in_ok-push-in-Some-first_left-2.ensures.items ∙ ap (λ l. l ++ next ∷ []) c.in_ok-push-in-Some-first_left.ensures.items in
    rw all (walk_enter ways start marks (slice_set c.walk.nexts top place) (rest ++ top ∷ []) c.walk.order.items next start (λ a lt. inl lt) on new (last_leads ways rest top next (place, left.0)))

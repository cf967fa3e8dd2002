use Rattle.std.proofs.Common.{length, ◌≡◌, ◌+◌, ◌≤◌, inr, ℕ, List, Option, Some, sym, subst, ◌∙◌, refl, arith, slice_get}
use Rattle.lft_counts.{specs.{declared.orders.{Last.Last, Order.Order}, Orders.IsLast}, proofs.Going.{set_out, go_on, arrive, few}}
use Rattle.lft_model.specs.Runs.{start_row}
use Rattle.lft_counts.proofs.orders.Orders.start.Goals as goal

pub loop-place-init : goal.loop-place-init
loop-place-init g c = set_out g.here.trace (length g.here.program.reactions) g.here.place c.item_at-begin.result c.args.self.now c.requires.1.0

pub met-requires-clause-both : goal.met-requires-clause-both
met-requires-clause-both g c =
    let e : slice_get c.loop-place.self.all.items c.loop-place.place ≡ Some c.item_at-order.result = subst (λ (z : List Order). slice_get z c.loop-place.place ≡ Some c.item_at-order.result) c.as_slice-in-loop-place.ensures.value c.item_at-order.ensures in
    (few g.here.trace g.here.place 4000000 c.item_at-order.result c.requires.1.1.1.0 (c.loop-place.invariant.rest c.loop-place.place c.item_at-order.result e (inr (omega arith)))).0

pub met-requires-clause-apart : goal.met-requires-clause-apart
met-requires-clause-apart g c =
    let e : slice_get c.loop-place.self.all.items c.loop-place.place ≡ Some c.item_at-order.result = subst (λ (z : List Order). slice_get z c.loop-place.place ≡ Some c.item_at-order.result) c.as_slice-in-loop-place.ensures.value c.item_at-order.ensures in
    (few g.here.trace g.here.place 4000000 c.item_at-order.result c.requires.1.1.1.0 (c.loop-place.invariant.rest c.loop-place.place c.item_at-order.result e (inr (omega arith)))).1

pub loop-place-preserved : goal.loop-place-preserved
loop-place-preserved g c =
    let x = c.item_at-order.result in
    let place = c.loop-place.place in
    let i = g.here.place in
    let e : slice_get c.loop-place.self.all.items c.loop-place.place ≡ Some c.item_at-order.result = subst (λ (z : List Order). slice_get z c.loop-place.place ≡ Some c.item_at-order.result) c.as_slice-in-loop-place.ensures.value c.item_at-order.ensures in
    let so = c.loop-place.invariant in
    let low : c.item_at-begin.result ≤ place = c.loop-place.auto.place in
    let begins : slice_get c.args.self.now.begins.items c.args.reaction ≡ Some c.item_at-begin.result = subst (λ (z : List ℕ). slice_get z c.args.reaction ≡ Some c.item_at-begin.result) c.as_slice.ensures.value c.item_at-begin.ensures in
    let ends : slice_get c.args.self.now.begins.items (c.args.reaction + 1) ≡ Some c.item_at-end.result = subst (λ (z : List ℕ). slice_get z (c.args.reaction + 1) ≡ Some c.item_at-end.result) c.as_slice-2.ensures.value c.item_at-end.ensures in
    let its : x.then ≡ c.args.reaction = so.laid.there place c.args.reaction c.item_at-begin.result c.item_at-end.result x e begins ends low c.loop-place-test.true in
    let here : slice_get g.here.trace i ≡ Some (start_row c.args.worker c.args.tag x.then) = subst (λ j. slice_get g.here.trace i ≡ Some (start_row c.args.worker c.args.tag j)) (sym its) c.requires.1.1.0 in
    let last : IsLast g.here.trace i x.first c.item_at-last.result = c.requires.1.0.kept x.first c.item_at-last.result (subst (λ (z : List (Option Last)). slice_get z x.first ≡ Some c.item_at-last.result) (c.as_slice-in-loop-place-2.ensures.value ∙ so.lasts) c.item_at-last.ensures) in
    go_on g.here.trace (length g.here.program.reactions) i c.item_at-begin.result place c.args.self.now c.loop-place.self x c.met.result low e c.met.ensures.first c.met.ensures.then (c.met.ensures.counted g.here.trace i c.requires.0 here last (so.rest place x e (inr (omega arith)))) so _ refl refl refl

pub returns-clause-stands : goal.returns-clause-stands
returns-clause-stands g c =
    let begins : slice_get c.args.self.now.begins.items c.args.reaction ≡ Some c.item_at-begin.result = subst (λ (z : List ℕ). slice_get z c.args.reaction ≡ Some c.item_at-begin.result) c.as_slice.ensures.value c.item_at-begin.ensures in
    let ends : slice_get c.args.self.now.begins.items (c.args.reaction + 1) ≡ Some c.item_at-end.result = subst (λ (z : List ℕ). slice_get z (c.args.reaction + 1) ≡ Some c.item_at-end.result) c.as_slice-2.ensures.value c.item_at-end.ensures in
    let past : c.item_at-end.result ≤ c.loop-place.place = c.loop-place-test.false in
    arrive g.here.trace (length g.here.program.reactions) g.here.place c.args.worker c.args.reaction c.args.tag c.args.self.now c.loop-place.self c.requires.1.1.0 c.requires.1.0 c.item_at-begin.result c.item_at-end.result begins ends c.requires.1.1.1.1 c.loop-place.place past c.loop-place.invariant _ refl refl refl

pub returns-clause-all : goal.returns-clause-all
returns-clause-all g c = c.loop-place.invariant.all

use Rattle.std.proofs.Common.{◌≡◌, ◌∷◌, List, map, refl, sym, ap, subst, arith, rules, slice_get, Contains}
use Rattle.std.{specs.{List.Sorted.IsPermutation, declared.cmp.Reverse.Reverse}, proofs.lemmas.List.Sorted.IsPermutation-map}
use Rattle.lft_tag.{specs.{declared.Tag.Tag, Tags.{Before, UpTo}}, proofs.Order.{Before-UpTo, UpTo-trans}}
use Rattle.lft_ir.specs.declared.parts.Timer.{Timer as TimerOf}
use Rattle.lft_lists.proofs.Places.{same_some}
use Rattle.lft_model.specs.Presence.{Fires}
use Rattle.lft_scheduler.specs.{declared.firings.Firing.Firing, inner.Firings.{tag_of_firing, IsFirstFiring, IsFirstOf, IsMoved}}
use Rattle.lft_scheduler.proofs.{FirstFirings.least_firing, Taking.{was, moved_out, moved_on}}
use Rattle.lft_scheduler.proofs.firings.Firings.take.Goals as goal

pub returns-then-is_before-clause-over : goal.returns-then-is_before-clause-over
returns-then-is_before-clause-over c f k =
    let b : Before c.args.tag c.in-Some.first = search rules in
    Before-UpTo c.args.tag c.in-Some.first (tag_of_firing f) b (c.in-Some.ensures.least f k)

pub timer-requires : goal.timer-requires
timer-requires c =
    let p = c.in-Some-pop.field-0 in
    let xs = c.self.inside.heap.data.items in
    let out : IsPermutation (map (λ r. r.0) xs) (map (λ r. r.0) (p ∷ c.pop.new.self.data.items)) = IsPermutation-map (λ (r : Reverse Firing). r.0) xs (p ∷ c.pop.new.self.data.items) c.in-Some-pop.ensures.permutation in
    c.requires.timers p.0 (subst (λ (fs : List Firing). Contains fs p.0) c.self.view_is (was p.0 (map (λ r. r.0) xs) (map (λ r. r.0) c.pop.new.self.data.items) out))

pub returns-in-Some-next_firing-clause-some : goal.returns-in-Some-next_firing-clause-some
returns-in-Some-next_firing-clause-some c =
    let program = c.args.program.now in
    let g = c.args.tag in
    let p = c.in-Some-pop.field-0 in
    let xs = c.self.inside.heap.data.items in
    let ys = c.pop.new.self.data.items in
    let zs = c.push-fits.new.self.data.items in
    let out : IsPermutation (map (λ r. r.0) xs) (map (λ r. r.0) (p ∷ ys)) = IsPermutation-map (λ (r : Reverse Firing). r.0) xs (p ∷ ys) c.in-Some-pop.ensures.permutation in
    let its = c.in-Some.ensures.some in
    let least : UpTo (tag_of_firing p.0) (tag_of_firing its.0) = least_firing p xs (c.in-Some-pop.ensures.heap_order c.self.invariant).1 its.0 (subst (λ (fs : List Firing). Contains fs its.0) (sym c.self.view_is) its.1) in
    let first : UpTo c.in-Some.first g = search rules in
    let u : UpTo (tag_of_firing p.0) g = UpTo-trans (tag_of_firing p.0) c.in-Some.first g (subst (λ (h : Tag). UpTo (tag_of_firing p.0) h) its.2 least) first in
    let next : Firing = record { time = c.in-Some-next_firing.next.time; timer = p.0.timer } in
    let fits = c.push-fits.ensures.succeeds (let l = c.in-Some-pop.ensures.len in let k = c.pop.ensures.capacity in let o = c.self.inside.heap.data.ok.1 in omega arith) in
    let put : IsPermutation (map (λ r. r.0) (record { 0 = next } ∷ ys)) (map (λ r. r.0) zs) = IsPermutation-map (λ (r : Reverse Firing). r.0) (record { 0 = next } ∷ ys) zs (search rules) in
    let its_next = c.in-Some-next_firing.ensures.some in
    let zero : c.in-Some-next_firing.next.micro ≡ 0 = ap (λ (h : Tag). h.micro) its_next.fires.1 in
    let is_first : IsFirstOf program (λ h. Before g h) next = (c.timer.result.now, c.timer.ensures.value, subst (λ (m : _). IsFirstFiring c.timer.result.now (λ h. Before g h) (record { time = next.time; micro = m })) zero its_next) in
    subst (λ (fs : List Firing). IsMoved program g p.0.timer fs (map (λ r. r.0) zs)) c.self.view_is (moved_on program g p.0 (map (λ r. r.0) xs) (map (λ r. r.0) ys) out u next (map (λ r. r.0) zs) put refl is_first)

pub returns-in_default-next_firing-clause-some : goal.returns-in_default-next_firing-clause-some
returns-in_default-next_firing-clause-some c =
    let program = c.args.program.now in
    let g = c.args.tag in
    let p = c.in-Some-pop.field-0 in
    let xs = c.self.inside.heap.data.items in
    let ys = c.pop.new.self.data.items in
    let timer = c.timer.result.now in
    let out : IsPermutation (map (λ r. r.0) xs) (map (λ r. r.0) (p ∷ ys)) = IsPermutation-map (λ (r : Reverse Firing). r.0) xs (p ∷ ys) c.in-Some-pop.ensures.permutation in
    let its = c.in-Some.ensures.some in
    let least : UpTo (tag_of_firing p.0) (tag_of_firing its.0) = least_firing p xs (c.in-Some-pop.ensures.heap_order c.self.invariant).1 its.0 (subst (λ (fs : List Firing). Contains fs its.0) (sym c.self.view_is) its.1) in
    let first : UpTo c.in-Some.first g = search rules in
    let u : UpTo (tag_of_firing p.0) g = UpTo-trans (tag_of_firing p.0) c.in-Some.first g (subst (λ (h : Tag). UpTo (tag_of_firing p.0) h) its.2 least) first in
    subst (λ (fs : List Firing). IsMoved program g p.0.timer fs (map (λ r. r.0) ys)) c.self.view_is (moved_out program g p.0 (map (λ r. r.0) xs) (map (λ r. r.0) ys) out u (λ h fires b. c.in_default-next_firing.ensures.none h (subst (λ (x : TimerOf). Fires x h) (same_some (slice_get program.timers p.0.timer) fires.0 timer fires.1 c.timer.ensures.value) fires.2) b))

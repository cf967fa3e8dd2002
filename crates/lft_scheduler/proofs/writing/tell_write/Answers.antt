use Rattle.std.proofs.Common.{◌≡◌, ℕ, ◌<◌, length, Some, slice_get, IsTrue, sym, ap, ◌∙◌, subst, arith}
use Rattle.lft_tag.specs.Shifts.{shifted}
use Rattle.lft_ir.specs.Parts.{Parts}
use Rattle.lft_ir.specs.declared.parts.{Port.Port as PortOf, Value.TheVariants.Bare, Name.TheVariants.Port, Trigger.TheVariants.On}
use Rattle.lft_ir.specs.declared.steps.row.Step.TheVariants.{Write}
use Rattle.lft_lists.proofs.Places.{contains_at, at_contains, same_some}
use Rattle.lft_model.proofs.Places.{slice_get_within}
use Rattle.lft_scheduler.specs.inner.{Listeners.{IsListener, IsArrival}, Telling.ArrivesAtOnce}
use Rattle.lft_scheduler.proofs.{Given.listened_watched, ToldTurns.{told_as, told_begun, told_next, told_each}}
use Rattle.lft_scheduler.proofs.writing.tell_write.Goals as goal

pub loop-at-init : goal.loop-at-init
loop-at-init c = λ v. told_begun (λ (p r : ℕ). ArrivesAtOnce c.args.plan.now.program c.args.tag (Write (Port c.args.origin) v) p × IsListener c.args.plan.now.program (On (Port p)) r) c.of-ports.result.now c.args.turn.now

pub port-requires : goal.port-requires
port-requires c =
    let n = c.item_at-number.result in
    let its : IsArrival c.args.plan.now.program c.args.origin n = ((c.of-ports.ensures.each c.args.plan.now.program c.requires.arrivals n).0 (contains_at c.of-ports.result.now c.loop-at.at n c.item_at-number.ensures)).0 in
    let l : n < length c.args.plan.now.program.ports = slice_get_within c.args.plan.now.program.ports n its.0 its.1 in
    subst (λ (p : Parts). n < length p.ports) (sym c.program.ensures.value) l

pub loop-at-preserved : goal.loop-at-preserved
loop-at-preserved c = λ v.
    let program = c.args.plan.now.program in
    let g = c.args.tag in
    let n = c.item_at-number.result in
    let port = c.port.result.now in
    let its : IsArrival program c.args.origin n = ((c.of-ports.ensures.each program c.requires.arrivals n).0 (contains_at c.of-ports.result.now c.loop-at.at n c.item_at-number.ensures)).0 in
    let is_port : slice_get program.ports n ≡ Some port = ap (λ (p : Parts). slice_get p.ports n) (sym c.program.ensures.value) ∙ c.port.ensures.value in
    let origin : port.origin ≡ c.args.origin = ap (λ (x : PortOf). x.origin) (same_some (slice_get program.ports n) port its.0 is_port its.1) ∙ its.2 in
    told_next (λ (p r : ℕ). ArrivesAtOnce program g (Write (Port c.args.origin) v) p × IsListener program (On (Port p)) r) c.of-ports.result.now c.loop-at.at n c.args.turn.now c.loop-at.turn c.tell_of.new.turn c.item_at-number.ensures (c.loop-at.invariant v)
    (told_as (λ r. IsTrue c.is_same-at_once.result × IsListener program (On (Port n)) r) (λ r. ArrivesAtOnce program g (Write (Port c.args.origin) v) n × IsListener program (On (Port n)) r) c.loop-at.turn c.tell_of.new.turn
    (λ r p. ((port, is_port, origin, sym c.plus-arrives.ensures.folded ∙ c.is_same-at_once.ensures.0 p.0), p.1))
    (λ r p. (c.is_same-at_once.ensures.1 (c.plus-arrives.ensures.folded ∙ subst (λ (x : PortOf). shifted g (x.shift.time, x.shift.steps) ≡ g) (same_some (slice_get program.ports n) p.0.0 port p.0.1 is_port) p.0.3), p.1))
    c.tell_of.ensures)

pub returns : goal.returns
returns c = λ v.
    let program = c.args.plan.now.program in
    let g = c.args.tag in
    told_each (λ (p r : ℕ). ArrivesAtOnce program g (Write (Port c.args.origin) v) p × IsListener program (On (Port p)) r) c.of-ports.result.now (λ r. (p : ℕ) × ArrivesAtOnce program g (Write (Port c.args.origin) v) p × IsListener program (On (Port p)) r) c.loop-at.at c.args.turn.now c.loop-at.turn (let z = c.loop-at-test.false in omega arith)
    (λ r k p e q. (p, q.0, q.1))
    (λ r q. (let k = at_contains c.of-ports.result.now q.0 ((c.of-ports.ensures.each program c.requires.arrivals q.0).1 ((q.1.0, q.1.1, q.1.2), listened_watched program (Port q.0) r q.2)) in (k.0, q.0, k.1, (q.1, q.2))))
    (c.loop-at.invariant v)

pub tell_of-requires-clause-phases : goal.tell_of-requires-clause-phases
tell_of-requires-clause-phases c = (c.loop-at.invariant Bare).count ∙ c.requires.phases

use Rattle.std.proofs.Common.{◌≡◌, ℕ, List, refl, ap, sym, ◌∙◌, subst, arith, is_some, take}
use Rattle.std.proofs.lemmas.{List.take_all, Option.slice_get_within}
use Rattle.lft_ir.specs.declared.{parts.Name.TheVariants.Port, steps.row.Step.TheVariants.Write}
use Rattle.lft_lists.proofs.Places.{contains_at}
use Rattle.lft_queue.specs.Pending.{value_of}
use Rattle.lft_scheduler.specs.inner.{Listeners.{IsArrival, IsWatched}, Events.IsFedTo}
use Rattle.lft_scheduler.proofs.{Fed.{taken_more, unmet_yet}, Steps.{none_fed, write_fed, knows_again}}
use Rattle.lft_model.specs.Recorded.{run_row}
use Rattle.lft_scheduler.proofs.events.feeding.feed_write.Goals as goal

pub loop-place-init : goal.loop-place-init
loop-place-init c = λ t w r u is. none_fed c.args.plan.now t (run_row w c.args.tag r (Write (Port c.args.origin) c.args.value)) c.args.last c.args.clash c.args.queue.now is

pub feed_port-requires-clause-number : goal.feed_port-requires-clause-number
feed_port-requires-clause-number c =
    let arrives = (c.of-ports.ensures.each c.args.plan.now.program c.requires.arrivals c.item_at.result).0 (contains_at c.of-ports.result.now c.loop-place.place c.item_at.result c.item_at.ensures) in
    slice_get_within c.args.plan.now.program.ports c.item_at.result arrives.0.0 arrives.0.1

pub loop-place-preserved : goal.loop-place-preserved
loop-place-preserved c = λ t w r u is.
    let plan = c.args.plan.now in
    let ports = c.of-ports.result.now in
    let p = c.item_at.result in
    let again : c.is_some-again.result ≡ is_some (value_of c.args.tag (Port c.args.origin) c.args.queue.now) = c.is_some-again.ensures ∙ ap is_some c.get.ensures in
    let arrives : IsArrival plan.program c.args.origin p × IsWatched plan.program p = (c.of-ports.ensures.each plan.program c.requires.arrivals p).0 (contains_at ports c.loop-place.place p c.item_at.ensures) in
    let fed = c.in_ok-found.ensures t w r c.args.origin (take c.loop-place.place ports) arrives.0 arrives.1 (unmet_yet ports c.loop-place.place p (c.of-ports.ensures.once plan.program c.requires.arrivals) c.item_at.ensures) (c.loop-place.invariant t w r u is) (knows_again plan c.keeps.ensures.sound t c.args.tag c.args.last c.args.clash c.args.queue.now c.args.origin c.is_some-again.result u is again) in
    subst (λ (ps : List ℕ). IsFedTo plan t (run_row w c.args.tag r (Write (Port c.args.origin) c.args.value)) c.args.last ps c.in_ok-found.found c.feed_port.new.queue) (sym (taken_more ports c.loop-place.place p c.item_at.ensures)) fed

pub returns : goal.returns
returns c = λ t w r u is.
    let plan = c.args.plan.now in
    let ports = c.of-ports.result.now in
    let x = run_row w c.args.tag r (Write (Port c.args.origin) c.args.value) in
    let fed : IsFedTo plan t x c.args.last ports c.loop-place.found c.loop-place.queue = subst (λ (ps : List ℕ). IsFedTo plan t x c.args.last ps c.loop-place.found c.loop-place.queue) (take_all c.loop-place.place ports (let z = c.loop-place-test.false in omega arith)) (c.loop-place.invariant t w r u is) in
    write_fed plan c.keeps.ensures.sound t x c.args.origin c.args.value refl c.args.last c.loop-place.found c.loop-place.queue ports (λ p a w. (c.of-ports.ensures.each plan.program c.requires.arrivals p).1 (a, w)) fed

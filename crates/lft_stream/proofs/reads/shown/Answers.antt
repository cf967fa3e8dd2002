use Rattle.std.proofs.Common.{◌≡◌, ◌<◌, ◌++◌, ◌∙◌, length, Option, Some, true, [], slice_get, ap, subst, sym, arith}
use Rattle.lft_lists.proofs.Places.{get_there}
use Rattle.lft_ir.{specs.{Origins.Origin, Parts.Parts, declared.parts.{Name.{Name, TheVariants.{Port, Action}}, Value.Value}}, proofs.Origins.origin_inside}
use Rattle.lft_model.specs.Presence.{Shows}
use Rattle.lft_queue.{specs.{Pending.value_of, inner.Coming.{AtOnce.is_undelayed, Shown.last_write}}, proofs.ComingLemmas.AtOnce.way_at_once}
use Rattle.lft_stream.proofs.Showing.{shows_law}
use Rattle.lft_stream.proofs.reads.shown.Goals as goal

pub value_at-requires : goal.value_at-requires
value_at-requires c =
    let is = c.program-program.ensures.value in
    let port = c.port.result.now in
    let kept = c.program-program.ensures.sound.sound.origins c.in-Port.number port (ap (λ (p : Parts). slice_get p.ports c.in-Port.number) (sym is) ∙ c.port.ensures.value) in
    let within : port.origin < length c.args.plan.now.program.ports = origin_inside kept.1 in
    let long : length c.args.writes.now ≡ length c.args.plan.now.program.ports = c.requires.long in
    omega arith

pub returns-then-is_undelayed : goal.returns-then-is_undelayed
returns-then-is_undelayed c = λ d u are.
    let plan = c.args.plan.now in
    let is = c.program-program.ensures.value in
    let p = c.in-Port.number in
    let port = c.port.result.now in
    let at : slice_get plan.program.ports p ≡ Some port = ap (λ (z : Parts). slice_get z.ports p) (sym is) ∙ c.port.ensures.value in
    let sound = c.program-program.ensures.sound.sound in
    let tested : is_undelayed plan.program p ≡ true = ap (λ (z : Parts). is_undelayed z p) (sym is) ∙ sym c.is_undelayed.ensures ∙ c.if-is_undelayed.true in
    let way : Origin plan.program p port.origin [] = way_at_once plan.program sound p port at tested in
    let within : port.origin < length c.args.writes.now = let l : port.origin < length plan.program.ports = origin_inside way in let long = c.requires.long in omega arith in
    let w = get_there c.args.writes.now port.origin within in
    let found : last_write u c.args.tag port.origin ≡ c.value_at.result = sym (are.written.each port.origin w.0 w.1) ∙ sym (c.value_at.ensures w.0 w.1) in
    let shows : Shows plan (d ++ u) c.args.tag (Port p) (last_write u c.args.tag port.origin) = (shows_law plan).undelayed d u c.args.tag p port.origin are.earlier are.at_tag way in
    subst (λ (n : Name). Shows plan (d ++ u) c.args.tag n c.value_at.result) (sym c.in-Port.is) (subst (λ (o : Option Value). Shows plan (d ++ u) c.args.tag (Port p) o) found shows)

pub returns-in-Action : goal.returns-in-Action
returns-in-Action c = λ d u are.
    let plan = c.args.plan.now in
    subst (λ (n : Name). Shows plan (d ++ u) c.args.tag n c.value_at-in-Action.result) (sym c.in-Action.is) (subst (λ (o : Option Value). Shows plan (d ++ u) c.args.tag (Action c.in-Action.field-0) o) (ap (λ (n : Name). value_of c.args.tag n c.args.coming.now.queue) (sym c.in-Action.is) ∙ sym c.value_at-in-Action.ensures) (are.queued (Action c.in-Action.field-0) tt tt))

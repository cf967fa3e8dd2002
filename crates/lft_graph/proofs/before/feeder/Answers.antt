use Rattle.std.proofs.Common.{◌≡◌, ◌<◌, ◌∙◌, ap, sym, subst, length, Some, None, slice_get, arith, []}
use Rattle.std.proofs.lemmas.Option.{slice_get-get_or, get_or_from_slice_get}
use Rattle.lft_ir.specs.Origins.{Origin}
use Rattle.lft_graph.specs.inner.Walks.{IsUndelayed}
use Rattle.lft_graph.proofs.Feeding.{origin_there, no_delay, kept_origin, last_at, last_there}
use Rattle.lft_graph.proofs.before.feeder.Goals.{else-port-eq0-via-then-port-eq0+else-port-eq0-2, else-port-eq0-via-else-port-eq0}
use Rattle.lft_graph.proofs.before.feeder.Goals as goal

pub bounds-writers-port : goal.bounds-writers-port
bounds-writers-port c = let l = origin_there c.args.program.now c.port-port.ensures.sound c.in-Port.number c.port-port.result.now c.port-port.ensures.value in let s = c.requires.writers.as_long in omega arith

pub returns-then-port-eq0-2-clause-found : goal.returns-then-port-eq0-2-clause-found
returns-then-port-eq0-2-clause-found c a e =
    let l = origin_there c.args.program.now c.port-port.ensures.sound c.in-Port.number c.port-port.result.now c.port-port.ensures.value in
    let s = c.requires.writers.as_long in
    let m : c.port-port.result.now.origin < length c.args.writers.now = omega arith in
    let g : slice_get c.args.writers.now c.port-port.result.now.origin ≡ Some (Some a) = slice_get-get_or c.args.writers.now c.port-port.result.now.origin None m ∙ ap Some e in
    let d : Origin c.args.program.now c.in-Port.number c.port-port.result.now.origin [] = no_delay c.args.program.now c.port-port.ensures.sound c.in-Port.number c.port-port.result.now c.port-port.ensures.value c.if-port-eq0.true c.if-port-eq0-2.true in
    (c.port-port.result.now.origin, subst (λ n. IsUndelayed c.args.program.now n c.port-port.result.now.origin) (sym c.in-Port.is) d, last_at c.args.program.now c.port-port.ensures.sound c.args.writers.now c.requires.writers c.port-port.result.now.origin a g)

pub returns-then-port-eq0-2-clause-covers : goal.returns-then-port-eq0-2-clause-covers
returns-then-port-eq0-2-clause-covers c a o w u =
    let d : Origin c.args.program.now c.in-Port.number o [] = subst (λ n. IsUndelayed c.args.program.now n o) c.in-Port.is u in
    let k = kept_origin c.args.program.now c.port-port.ensures.sound c.in-Port.number o c.port-port.result.now c.port-port.ensures.value d in
    let t = last_there c.args.program.now c.port-port.ensures.sound c.args.writers.now c.requires.writers a o w in
    let g : slice_get c.args.writers.now c.port-port.result.now.origin ≡ Some (Some t.0) = subst (λ p. slice_get c.args.writers.now p ≡ Some (Some t.0)) (sym k.0) t.2 in
    (t.0, t.1, get_or_from_slice_get c.args.writers.now c.port-port.result.now.origin (Some t.0) None g)

pub returns-else-port-eq0-clause-covers : goal.returns-else-port-eq0-clause-covers
returns-else-port-eq0-clause-covers c a o w u =
    let d : Origin c.args.program.now c.in-Port.number o [] = subst (λ n. IsUndelayed c.args.program.now n o) c.in-Port.is u in
    let k = kept_origin c.args.program.now c.port-port.ensures.sound c.in-Port.number o c.port-port.result.now c.port-port.ensures.value d in
    let t : c.port-port.result.now.shift.time ≡ 0 = k.1 in
    let s : c.port-port.result.now.shift.steps ≡ 0 = k.2 in
    absurd (elim c.else-port-eq0.branch [ else-port-eq0-via-then-port-eq0+else-port-eq0-2 v ↦ (let f = v.if-port-eq0-2.false in omega arith) | else-port-eq0-via-else-port-eq0 v ↦ (let f = v.if-port-eq0.false in omega arith) ])

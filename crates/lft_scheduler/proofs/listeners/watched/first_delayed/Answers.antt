use Rattle.std.proofs.Common.{◌≡◌, ◌+◌, ℕ, None, replicate, length, refl, sym, ◌∙◌, subst, arith, rules}
use Rattle.std.proofs.lemmas.{Bool.false≢true, Option.slice_get_read}
use Rattle.lft_scheduler.specs.inner.Filling.{AreFirstDelayedPorts}
use Rattle.lft_scheduler.proofs.Watching.{first_start, first_stays, first_changes, first_inside}
use Rattle.lft_scheduler.proofs.listeners.watched.first_delayed.Goals.{then-precedes, else-precedes}
use Rattle.lft_graph.proofs.Feeding.{origin_there}
use Rattle.lft_scheduler.proofs.listeners.watched.first_delayed.Goals as goal

pub ports-init : goal.ports-init
ports-init c = (let same : c.in_ok-firsts.firsts.items ≡ replicate c.ports-2.result None = search rules in first_start c.args.program.now c.ports-2.result c.in_ok-firsts.firsts.items same c.ports-2.ensures.count)

pub index-requires : goal.index-requires
index-requires c = let o = origin_there c.args.program.now c.port-port.ensures.sound c.ports.number c.port-port.result.now c.port-port.ensures.value in let a = c.ports.invariant.as_long in omega arith

pub index_mut-requires : goal.index_mut-requires
index_mut-requires c = let o = origin_there c.args.program.now c.port-port.ensures.sound c.ports.number c.port-port.result.now c.port-port.ensures.value in let a = c.ports.invariant.as_long in omega arith

pub precedes-requires : goal.precedes-requires
precedes-requires c =
    let program = c.args.program.now in
    let port = c.port-port.result.now in
    let inside = origin_there program c.port-port.ensures.sound c.ports.number port c.port-port.ensures.value in
    let a = c.ports.invariant.as_long in
    let there = slice_get_read c.ports.firsts.items (length c.ports.firsts.items) port.origin c.index.result.now refl (omega arith) c.index.ensures in
    first_inside program c.ports.number port.origin c.index.result.now (let t = c.ports-test.true in let e = c.ports-number-end.ensures.count in omega arith) (c.ports.invariant.each port.origin c.index.result.now there)

pub ports-preserved : goal.ports-preserved
ports-preserved c =
    let program = c.args.program.now in
    let n = c.ports.number in
    let port = c.port-port.result.now in
    let here = c.port-port.ensures.value in
    let inside = origin_there program c.port-port.ensures.sound n port here in
    let a = c.ports.invariant.as_long in
    let there = slice_get_read c.ports.firsts.items (length c.ports.firsts.items) port.origin c.index.result.now refl (omega arith) c.index.ensures in
    elim c.if-precedes.branch [
      | then-precedes w ↦ (let y = first_changes program n port here c.ports.firsts.items c.ports.invariant c.index.result.now there (c.precedes.ensures.0 w.if-precedes.true) in subst (λ fs. AreFirstDelayedPorts program (n + 1) fs.items) (sym w.firsts-is) y)
      | else-precedes w ↦ (let y = first_stays program n port here c.ports.firsts.items c.ports.invariant c.index.result.now there (λ p. false≢true (sym w.if-precedes.false ∙ c.precedes.ensures.1 p)) in subst (λ fs. AreFirstDelayedPorts program (n + 1) fs.items) (sym w.firsts-is) y)
    ]

pub returns : goal.returns
returns c = subst (λ (k : ℕ). AreFirstDelayedPorts c.args.program.now k c.ports.firsts.items) (let a = c.ports-test.false in let b = c.ports.auto.number-end in let e = c.ports-number-end.ensures.count in let z : c.ports.number ≡ length c.args.program.now.ports = omega arith in z) c.ports.invariant

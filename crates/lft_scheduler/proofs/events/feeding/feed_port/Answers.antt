use Rattle.std.proofs.Common.{◌≡◌, ◌++◌, ◌∷◌, [], List, Some, None, slice_get, refl, sym, ap, ◌∙◌, subst}
use Rattle.std.proofs.lemmas.{Bool.false≢true, Result.IfOk-weaker}
use Rattle.lft_tag.specs.{declared.Tag.Tag, Shifts.shifted}
use Rattle.lft_ir.specs.{Parts.Parts, declared.{parts.{Port.Port as PortOf, Name.TheVariants.Port}, steps.row.Step.TheVariants.Write}}
use Rattle.lft_lists.proofs.Places.{same_some}
use Rattle.lft_queue.specs.Pending.{Pending, Becomes}
use Rattle.lft_model.specs.Recorded.{run_row}
use Rattle.lft_scheduler.specs.inner.Events.{IsEventPut, IsFedTo}
use Rattle.lft_scheduler.proofs.{Fed.{again_fed, first_fed}, events.feeding.feed_port.Goals.{then-again, else-again}}
use Rattle.lft_scheduler.proofs.events.feeding.feed_port.Goals as goal

pub returns : goal.returns
returns c = λ t w r o ports arrives watched unmet is was.
    let plan = c.args.plan.now in
    let port = c.port.result.now in
    let there : slice_get plan.program.ports c.args.number ≡ Some port = ap (λ (z : Parts). slice_get z.ports c.args.number) (sym c.program.ensures.value) ∙ c.port.ensures.value in
    let its : port.origin ≡ o = ap (λ (z : PortOf). z.origin) (same_some (slice_get plan.program.ports c.args.number) port arrives.0 there arrives.1) ∙ arrives.2 in
    let x = run_row w c.args.tag r (Write (Port o) c.args.value) in
    let at : c.plus-at.result ≡ shifted c.args.tag (port.shift.time, port.shift.steps) = c.plus-at.ensures.folded in
    IfOk-weaker c.put.result (λ found. IsEventPut c.args.last c.args.clash c.plus-at.result (Port c.args.number) c.args.value c.if-again.queue c.put.new.queue found) (λ found. IsFedTo plan t x c.args.last (ports ++ c.args.number ∷ []) found c.put.new.queue) (λ found put0.
    let put : IsEventPut c.args.last c.args.clash (shifted c.args.tag (port.shift.time, port.shift.steps)) (Port c.args.number) c.args.value c.if-again.queue c.put.new.queue found = subst (λ (g : Tag). IsEventPut c.args.last c.args.clash g (Port c.args.number) c.args.value c.if-again.queue c.put.new.queue found) at put0 in
    elim c.if-again.branch [
      | then-again k ↦
          let out0 : Becomes c.args.queue.now c.if-again.queue c.plus-at.result (Port c.args.number) None = subst (λ (q : List Pending). Becomes c.args.queue.now q c.plus-at.result (Port c.args.number) None) (sym k.queue-is) k.remove-replaced.ensures.removed in
          again_fed plan c.program.ensures.sound t x o c.args.value refl c.args.number port there watched c.args.last ports unmet c.args.clash c.args.queue.now is its c.if-again.queue c.put.new.queue found put ((was c.args.number port there its).0 k.if-again.true) (subst (λ (g : Tag). Becomes c.args.queue.now c.if-again.queue g (Port c.args.number) None) at out0)
      | else-again k ↦ first_fed plan c.program.ensures.sound t x o c.args.value refl c.args.number port there watched c.args.last ports unmet c.args.clash c.args.queue.now is its c.if-again.queue c.put.new.queue found put (λ y. false≢true (sym k.if-again.false ∙ (was c.args.number port there its).1 y)) k.queue-is
    ]) c.put.ensures

use Rattle.std.proofs.Common.{◌≡◌, ◌+◌, Some, List, length, sym, ap, ◌∙◌, slice_get, refl, arith, add-one}
use Rattle.lft_model.proofs.Places.{slice_get_within}
use Rattle.lft_ir.specs.declared.steps.externals.Event.{Event}
use Rattle.std.proofs.lemmas.Bool.{false≢true}
use Rattle.lft_queue.proofs.ComingLemmas.ToCome.{brought_here, brings, one_taken}
use Rattle.lft_queue.proofs.coming.coming.Coming.bring.Goals as goal

pub returns-then-is_before-clause-brought : goal.returns-then-is_before-clause-brought
returns-then-is_before-clause-brought c = λ z.
    let events = c.args.externals.now.events in
    let there : slice_get events c.loop-self.self.next ≡ Some c.item_at-event.result = ap (λ (es : List Event). slice_get es c.loop-self.self.next) (sym c.events-events.ensures.value) ∙ c.item_at-event.ensures in
    brought_here events c.events-events.ensures.order c.loop-self.self.next c.item_at-event.result there c.args.tag (c.is_before.ensures.0 c.if-is_before.true)

pub loop-self-preserved : goal.loop-self-preserved
loop-self-preserved c =
    let events = c.args.externals.now.events in
    let k = c.loop-self.self.next in
    let x = c.item_at-event.result in
    let there : slice_get events k ≡ Some x = ap (λ (es : List Event). slice_get es k) (sym c.events-events.ensures.value) ∙ c.item_at-event.ensures in
    record {
      same = λ h n. brings events c.events-events.ensures.order k x there c.loop-self.self c.put.new.self.queue (c.put.new.self.next + 1) (ap (λ j. j + 1) (c.put.ensures.next) ∙ add-one k) refl (c.in-Ok.ensures.absent) (c.in-Ok.ensures.put) h n ∙ c.loop-self.invariant.same h n;
      taken = one_taken events c.args.self.now.next k (c.put.new.self.next + 1) c.args.tag x (ap (λ j. j + 1) c.put.ensures.next) there (λ b. absurd (false≢true (c.if-is_before.ensures.1 b))) c.loop-self.invariant.taken;
      clash = c.put.ensures.clash ∙ c.loop-self.invariant.clash;
    }

pub returns-clause-brought : goal.returns-clause-brought
returns-clause-brought c = λ z i x l e. absurd (let w = slice_get_within c.args.externals.now.events i x e in let a = ap (λ (es : List Event). length es) c.events-events.ensures.value in let b = c.loop-self-test.false in omega arith)

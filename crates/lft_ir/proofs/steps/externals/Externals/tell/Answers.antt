use Rattle.std.proofs.Common.{List, is_ok, subst}
use Rattle.lft_ir.{specs.{inner.Steps.Inputs.BelongsAt, declared.steps.externals.Event.Event}, proofs.StepsLemmas.Placing.in_order-inserted}
use Rattle.lft_ir.proofs.steps.externals.Externals.tell.Goals as goal

pub invariant_of-self : goal.invariant_of-self
invariant_of-self c =
    let b = subst (λ (es : List Event). BelongsAt es c.args.event c.in-Some.place) c.as_slice.ensures.value c.in-Some.ensures.some in
    in_order-inserted c.self.inside.events.items c.insert.new.self.items c.args.event c.in-Some.place (is_ok c.insert.result) c.self.invariant b c.insert.ensures.items

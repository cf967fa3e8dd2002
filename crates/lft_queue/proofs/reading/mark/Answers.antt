use Rattle.std.proofs.Common.{◌≡◌, ◌↔◌, ◌⊎◌, Some, true, slice_get, slice_set, sym, ◌∙◌, subst, refl}
use Rattle.lft_ir.specs.declared.parts.Name.{Name, TheVariants.{Port, Action}}
use Rattle.lft_lists.proofs.Places.{length_written}
use Rattle.lft_queue.proofs.Marking.{port_marked, action_marked}
use Rattle.lft_queue.proofs.reading.mark.Goals as goal

pub returns-in-Port : goal.returns-in-Port
returns-in-Port c = record {
  count = length_written c.args.marked.now c.in-Port.port true;
  each = λ p. subst (λ (n : Name). (slice_get (slice_set c.args.marked.now c.in-Port.port true) p ≡ Some true) ↔ ((slice_get c.args.marked.now p ≡ Some true) ⊎ (n ≡ Port p))) (sym c.in-Port.is) (port_marked c.args.marked.now c.in-Port.port (c.requires c.in-Port.port c.in-Port.is) p);
}

pub returns-in-Action : goal.returns-in-Action
returns-in-Action c = record { count = refl; each = λ p. action_marked c.args.marked.now p c.args.name (λ e. (let z : Action c.in-Action.field-0 ≡ Port p = sym c.in-Action.is ∙ e in cc)) }

use Rattle.std.proofs.Common.{◌≡◌, ◌↔◌, ◌⊎◌, ◌<◌, ◌∙◌, List, Some, true, length, slice_get, Contains, refl, subst, arith}
use Rattle.std.proofs.lemmas.List.{take_all}
use Rattle.lft_ir.specs.declared.parts.Name.{Name, TheVariants.Port}
use Rattle.lft_lists.proofs.Places.{contains_at}
use Rattle.lft_queue.proofs.Marking.{names_start, names_more}
use Rattle.lft_queue.proofs.reading.mark_all.Goals as goal

pub names-init : goal.names-init
names-init c = record { count = refl; each = names_start c.args.names.now c.args.marked.now }

pub mark-requires : goal.mark-requires
mark-requires c = λ p e. (let l : p < length c.args.marked.now = c.requires p (subst (λ (n : Name). Contains c.args.names.now n) e (contains_at c.args.names.now c.names.place c.item_at.result c.item_at.ensures)) in let s = c.names.invariant.count in omega arith)

pub names-preserved : goal.names-preserved
names-preserved c = record {
  count = c.mark.ensures.count ∙ c.names.invariant.count;
  each = names_more c.args.names.now c.names.place c.item_at.result c.args.marked.now c.names.marked c.mark.new.marked c.item_at.ensures c.names.invariant.each c.mark.ensures.each;
}

pub returns-clause-each : goal.returns-clause-each
returns-clause-each c = λ p. subst (λ (ns : List Name). (slice_get c.names.marked p ≡ Some true) ↔ ((slice_get c.args.marked.now p ≡ Some true) ⊎ Contains ns (Port p))) (take_all c.names.place c.args.names.now (let z = c.names-test.false in omega arith)) (c.names.invariant.each p)

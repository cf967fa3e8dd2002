use Rattle.std.proofs.Common.{◌≡◌, ◌++◌, ◌∙◌, List, Some, slice_get, filter_map, ap, sym, subst}
use Rattle.lft_ir.{specs.{Naming.named, Parts.{Parts, inputs}, Sound.IsNameOf, declared.parts.Name.Name}, proofs.Naming.input_known}
use Rattle.lft_lists.proofs.Members.{Mem, mem_get, mem_left}
use Rattle.lft_queue.{specs.inner.Coming.AtOnce.IsAwaited, proofs.ComingLemmas.AtOnce.input_awaited}
use Rattle.lft_stream.proofs.Present.{woken}
use Rattle.lft_stream.proofs.reads.is_woken_by_any.Goals as goal

pub shown-requires : goal.shown-requires
shown-requires c =
    let x = c.reaction.result.now in
    let n = c.item_at.result in
    let m : Mem n (inputs x) = mem_left n (filter_map named x.triggers) x.uses (subst (λ (ns : List Name). Mem n ns) c.names-names.ensures (mem_get c.names-names.result.now c.loop-place.place n c.item_at.ensures)) in
    let known : IsNameOf c.program.result.now n = input_known c.program.result.now c.reaction.ensures.sound c.args.reaction x c.reaction.ensures.value n m in
    let awaited : IsAwaited c.program.result.now n = input_awaited c.program.result.now c.args.reaction x c.reaction.ensures.value n m in
    record { name = subst (λ (p : Parts). IsNameOf p n × IsAwaited p n) c.program.ensures.value (known, awaited); long = c.requires.long }

pub returns-then-is_some : goal.returns-then-is_some
returns-then-is_some c = λ z d u shown.
    let x = c.reaction.result.now in
    let is : slice_get c.args.plan.now.program.reactions c.args.reaction ≡ Some x = ap (λ (p : Parts). slice_get p.reactions c.args.reaction) (sym c.program.ensures.value) ∙ c.reaction.ensures.value in
    woken c.args.plan.now (d ++ u) c.args.tag c.args.reaction x is c.item_at.result (subst (λ (ns : List Name). Mem c.item_at.result ns) c.names-names.ensures (mem_get c.names-names.result.now c.loop-place.place c.item_at.result c.item_at.ensures)) c.shown.result c.if-is_some.ensures (c.shown.ensures d u shown)

use Rattle.std.proofs.Common.{◌≡◌, ◌<◌, ◌++◌, ◌∙◌, length, List, Some, slice_get, filter_map, ap, sym, arith}
use Rattle.lft_ir.{specs.{Naming.named, Parts.{Parts, inputs}, declared.parts.{Name.Name, Reaction.Reaction}}, proofs.Naming.input_known}
use Rattle.lft_lists.proofs.{Members.{Mem, mem_get}, Places.same_some}
use Rattle.lft_queue.proofs.ComingLemmas.AtOnce.{input_awaited}
use Rattle.lft_stream.proofs.{Present.woken, Meeting.trigger_at}
use Rattle.lft_stream.proofs.reads.is_woken_by_present.Goals as goal

pub shown-requires-clause-name : goal.shown-requires-clause-name
shown-requires-clause-name c =
    let plan = c.args.plan.now in
    let x = c.in-Some.ensures.0 in
    let n = c.item_at-name.result in
    let is : slice_get plan.program.reactions c.args.reaction ≡ Some x = ap (λ (p : Parts). slice_get p.reactions c.args.reaction) (sym c.program-program.ensures.value) ∙ c.in-Some.ensures.1 in
    let m : Mem n (inputs x) = mem_get (inputs x) c.in-Some.seat n c.in-Some.ensures.2 in
    (input_known plan.program c.program-program.ensures.sound.sound c.args.reaction x is n m, input_awaited plan.program c.args.reaction x is n m)

pub returns-then-is_some : goal.returns-then-is_some
returns-then-is_some c = λ z d u shown.
    let plan = c.args.plan.now in
    let x = c.in-Some.ensures.0 in
    let n = c.item_at-name.result in
    let own = c.reaction.result.now in
    let same : own ≡ x = same_some (slice_get c.program-program.result.now.reactions c.args.reaction) own x c.reaction.ensures.value c.in-Some.ensures.1 in
    let is : slice_get plan.program.reactions c.args.reaction ≡ Some x = ap (λ (p : Parts). slice_get p.reactions c.args.reaction) (sym c.program-program.ensures.value) ∙ c.in-Some.ensures.1 in
    let long : length c.names-triggers.result.now ≡ length (filter_map named x.triggers) = ap (λ (ns : List Name). length ns) c.names-triggers.ensures ∙ ap (λ (y : Reaction). length (filter_map named y.triggers)) same in
    let below : c.in-Some.seat < length (filter_map named x.triggers) = let a = c.if-seat-triggers.true in omega arith in
    woken plan (d ++ u) c.args.tag c.args.reaction x is n (trigger_at x n c.in-Some.seat c.in-Some.ensures.2 below) c.shown.result c.if-is_some.ensures (c.shown.ensures d u shown)

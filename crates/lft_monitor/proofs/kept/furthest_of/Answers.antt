use Rattle.std.proofs.Common.{◌+◌, true, length, refl, sym, ◌∙◌, subst, arith}
use Rattle.std.proofs.lemmas.{Bool.false≢true, Option.slice_get_read}
use Rattle.lft_ir.proofs.Origins.{origin_inside}
use Rattle.lft_lists.proofs.Places.{Some_same, length_written}
use Rattle.lft_monitor.proofs.{Furthest.{AreFar, IsMarked, far_more, far_less, far_all}, kept.furthest_of.Goals.{then-item_at, else-item_at}}
use Rattle.lft_monitor.proofs.kept.furthest_of.Goals as goal

pub index-requires : goal.index-requires
index-requires c = let o = origin_inside (c.port-port.ensures.sound.origins c.loop-number.number c.port-port.result.now c.port-port.ensures.value).1 in let a = c.loop-number.invariant.as_long in omega arith

pub index_mut-requires : goal.index_mut-requires
index_mut-requires c = let o = origin_inside (c.port-port.ensures.sound.origins c.loop-number.number c.port-port.result.now c.port-port.ensures.value).1 in let a = c.loop-number.invariant.as_long in omega arith

pub loop-number-preserved : goal.loop-number-preserved
loop-number-preserved c =
    let program = c.args.program.now in
    let n = c.loop-number.number in
    let old = c.loop-number.furthest.items in
    let port = c.port-port.result.now in
    let o = origin_inside (c.port-port.ensures.sound.origins n port c.port-port.ensures.value).1 in
    let a = c.loop-number.invariant.as_long in
    let there = slice_get_read old (length old) port.origin c.index.result.now refl (omega arith) c.index.ensures in
    elim c.if-item_at.branch [
      | then-item_at w ↦ subst (λ fs. AreFar program (IsMarked c.args.marked.now) fs.items (n + 1)) (sym w.furthest-is) (far_more program (IsMarked c.args.marked.now) old _ n port c.index.result.now c.further-way.result c.port-port.ensures.value there refl (length_written old port.origin c.further-way.result) c.further-way.ensures.one c.further-way.ensures.other c.loop-number.invariant)
      | else-item_at w ↦ subst (λ fs. AreFar program (IsMarked c.args.marked.now) fs.items (n + 1)) (sym w.furthest-is) (far_less program (IsMarked c.args.marked.now) old n (λ e. false≢true (sym w.if-item_at.false ∙ Some_same c.item_at.result true (sym c.item_at.ensures ∙ e))) c.loop-number.invariant)
    ]

pub returns : goal.returns
returns c = far_all c.args.program.now (IsMarked c.args.marked.now) c.loop-number.furthest.items c.loop-number.number (let a = c.loop-number-test.false in let b = c.loop-number.auto.number-end in let e = c.ports-number-end.ensures.count in omega arith) c.loop-number.invariant

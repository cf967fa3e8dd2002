use Rattle.std.proofs.Common.{◌+◌, Some, take, sym, ap, ◌∙◌, subst}
use Rattle.lft_facts.{specs.inner.Ways.IsMarking, proofs.{Upstream.{marking_more, marking_same}, ways.mark.Goals.{in-None, in-Some}}}
use Rattle.lft_facts.proofs.ways.mark.Goals as goal

pub loop-place-preserved : goal.loop-place-preserved
loop-place-preserved c =
    let list = c.args.list.now in
    let i = c.loop-place.place in
    let a = c.item_at-at.result in
    elim c.match-next_at.branch [
      | in-None w ↦ marking_more list i a c.item_at-at.ensures c.args.number c.args.next.now c.loop-place.next c.loop-place.invariant (c.next_at.ensures ∙ ap Some w.in-None.is) c.match-next_at.next w.next-is
      | in-Some w ↦ subst (λ ns. IsMarking (take (i + 1) list) c.args.number c.args.next.now ns) (sym w.next-is) (marking_same list i a c.item_at-at.ensures c.args.number c.args.next.now c.loop-place.next c.loop-place.invariant w.in-Some.field-0 (c.next_at.ensures ∙ ap Some w.in-Some.is))
    ]

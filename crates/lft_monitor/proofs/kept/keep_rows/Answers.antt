use Rattle.std.proofs.Common.{◌+◌, ◌<◌, ◌∙◌, List, length, take, refl, sym, ap, subst, arith, Some}
use Rattle.std.proofs.lemmas.{Option.slice_get_read, List.take_all}
use Rattle.lft_lists.proofs.Places.{get_there}
use Rattle.lft_ir.specs.declared.steps.row.Row.{Row}
use Rattle.lft_monitor.{specs.inner.Kept.IsKept, proofs.{Keeping.{kept_one, kept_less}, kept.keep_rows.Goals.{then-index+in_ok-push, else-index}}}
use Rattle.lft_monitor.proofs.kept.keep_rows.Goals as goal

pub loop-place-preserved : goal.loop-place-preserved
loop-place-preserved c = λ last t apart.
    let plan = c.args.plan.now in
    let rows = c.args.rows.now in
    let low = c.args.low in
    let n = c.loop-place.place in
    let kept = c.loop-place.kept.items in
    let marks = c.in_ok-marks.marks.items in
    let long = c.in_ok-marks.ensures.long in
    let within : n < length rows = omega arith in
    let old = c.loop-place.invariant last t apart in
    elim c.if-index.branch [
      | then-index+in_ok-push w ↦ subst (λ (xs : List Row). IsKept last plan t (take (n + 1) rows) xs low) (sym (ap (λ v. v.items) w.kept-is ∙ w.in_ok-push.ensures.items)) (kept_one last plan t rows low n kept w.row_at.result w.row_at.ensures old)
      | else-index w ↦
          let x = get_there rows n within in
          let mark = slice_get_read marks (length marks) n c.index.result.now refl (omega arith) c.index.ensures ∙ ap Some w.if-index.false in
          subst (λ (xs : List Row). IsKept last plan t (take (n + 1) rows) xs low) (sym (ap (λ v. v.items) w.kept-is)) (kept_less last plan t rows low n kept x.0 x.1 old (c.in_ok-marks.ensures.idle last t apart n x.0 mark x.1))
    ]

pub returns : goal.returns
returns c = λ last t apart.
    let rows = c.args.rows.now in
    subst (λ (xs : List Row). IsKept last c.args.plan.now t xs c.loop-place.kept.items c.args.low) (take_all c.loop-place.place rows (omega arith)) (c.loop-place.invariant last t apart)

use Rattle.std.proofs.Common.{◌≡◌, ◌-◌, ◌++◌, length, refl, ap, ◌∙◌, subst, slice_get}
use Rattle.lft_tag.specs.{declared.Tag.Tag, Tags.after}
use Rattle.lft_lists.proofs.Places.{same_some}
use Rattle.lft_ir.specs.declared.steps.row.Row.{Row}
use Rattle.lft_stream.specs.inner.{Dues.NoneDueBefore, Kept.IsAcceptorOf}
use Rattle.lft_monitor.proofs.Going.{shown, behind_last}
use Rattle.lft_monitor.proofs.monitor.add_tags.Goals as goal

pub returns-clause-unbroken : goal.returns-clause-unbroken
returns-clause-unbroken c = λ yes done is x e.
    let rows = c.args.rows.now in
    let new = c.add_rows.new.acceptor in
    let stands : IsAcceptorOf c.args.plan.now (done ++ rows) new = c.if-not-add_rows.ensures refl done is in
    let low : c.after-low.result ≡ after x.tag 0 = c.after-low.ensures ∙ ap (λ (y : Row). after y.tag 0) (same_some (slice_get rows (length rows - 1)) c.row_at-last.result x c.row_at-last.ensures e) in
    shown c.args.plan.now (done ++ rows) (after x.tag 0) new.stream stands.stands (behind_last done rows x (length rows - 1) new.stream.tag e stands.stands.up_to) (subst (λ (k : Tag). NoneDueBefore new.stream.stop k new.stream.dues) low (c.is_timely.ensures yes))

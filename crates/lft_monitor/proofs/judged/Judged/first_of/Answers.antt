use Rattle.std.proofs.Common.{◌++◌, ◌+◌, ℕ, Some, None, sym, subst}
use Rattle.lft_tag.specs.declared.Tag.{Tag}
use Rattle.lft_model.specs.{declared.breach.Breach.Breach, Breaches.First}
use Rattle.lft_rows.specs.inner.Firsts.{FirstRow}
use Rattle.std.proofs.lemmas.Option.{IfSome_then}
use Rattle.lft_monitor.proofs.Ended.{first_of_rows, keeps_both}
use Rattle.lft_monitor.proofs.judged.Judged.first_of.Goals as goal

pub stop_over-stop-requires : goal.stop_over-stop-requires
stop_over-stop-requires c = (c.args.plan.now.program, c.requires.fit.each)

pub returns-in-Ok-Some : goal.returns-in-Ok-Some
returns-in-Ok-Some c = λ t are earlier.
    let plan = c.args.plan.now in
    let rows = c.args.rows.now in
    let breach = c.in-Ok-Some.breach in
    let first = subst (λ (g : Tag). FirstRow g plan rows (Some breach)) (c.stop_over-stop.ensures plan t are.past.stop_is) (rw c.in-Ok-Some.field-0-is at c.in-Ok-Some.ensures) in
    subst (λ (b : Breach). First plan (t ++ rows) b) (sym c.found_behind.ensures) (subst (λ (n : ℕ). First plan (t ++ rows) (record breach { row = n + breach.row })) (sym are.counted) (first_of_rows plan t rows are.rows earlier breach first))

pub returns-in-Ok-None : goal.returns-in-Ok-None
returns-in-Ok-None c = IfSome_then c.first_of_all.result c.first_of_all.ensures (λ b told t are earlier.
    let plan = c.args.plan.now in
    let rows = c.args.rows.now in
    let none = subst (λ (g : Tag). FirstRow g plan rows None) (c.stop_over-stop.ensures plan t are.past.stop_is) (rw c.in-Ok-None.field-0-is at c.in-Ok-None.ensures) in
    told t are.past (keeps_both plan t rows are.rows earlier none))

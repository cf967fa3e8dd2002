use Rattle.std.proofs.Common.{◌∙◌, ℕ, sym, subst}
use Rattle.std.specs.Prelude.{◌↔◌, IsTrue}
use Rattle.std.proofs.Math.Bool.{not}
use Rattle.lft_lists.proofs.Places.{Some_same}
use Rattle.lft_ir.specs.declared.steps.row.Row.{Row}
use Rattle.lft_model.specs.Breaches.{IsUnended}
use Rattle.lft_monitor.proofs.Opened.{IsEndedTo, open_exact}
use Rattle.lft_monitor.proofs.open.is_open.Goals as goal

pub returns : goal.returns
returns c = λ row at.
    let t = c.args.rows.now in
    let own = c.row_at-row.result in
    let starts = c.is_start.ensures.0 c.if-not-is_start.false in
    let found = subst (λ (n : ℕ). IsTrue c.is_ended.result ↔ IsEndedTo t c.args.place c.item_at-past.result c.args.last.now own starts c.requires.last c.item_at-past.ensures n) c.min.ensures (c.is_ended.ensures own c.row_at-row.ensures) in
    subst (λ (r : Row). IsTrue (not c.is_ended.result) ↔ IsUnended t c.args.place r) (Some_same own row (sym c.row_at-row.ensures ∙ at)) (open_exact t c.args.place c.item_at-past.result c.args.last.now own starts c.requires.last c.item_at-past.ensures c.is_ended.result found)

use Rattle.std.proofs.Common.{◌∙◌, List, length, slice_range, ap, sym}
use Rattle.std.proofs.lemmas.List.{take_rest}
use Rattle.lft_ir.specs.declared.steps.row.Row.{Row}
use Rattle.lft_monitor.proofs.follower.Follower.next.Goals as goal

pub returns : goal.returns
returns c =
    let f = c.args.self.now in
    ap (λ (u : List Row). slice_range u f.held (c.len.result)) c.as_slice.ensures.value ∙ ap (λ n. slice_range f.rows.items f.held n) (c.len.ensures ∙ sym c.as_slice.ensures.len ∙ ap (λ (u : List Row). length u) c.as_slice.ensures.value) ∙ take_rest f.rows.items f.held

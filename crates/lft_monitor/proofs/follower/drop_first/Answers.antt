use Rattle.std.proofs.Common.{◌-◌, ◌∙◌, List, ap, drop, sym, take}
use Rattle.lft_ir.specs.declared.steps.row.Row.{Row}
use Rattle.lft_monitor.proofs.Onward.{shifted}
use Rattle.lft_monitor.proofs.follower.drop_first.Goals as goal

pub returns-then-count-eq0 : goal.returns-then-count-eq0
returns-then-count-eq0 c = sym (ap (λ n. drop n c.args.rows.now.items) c.if-count-eq0.true)

pub returns : goal.returns
returns c =
    let items = c.args.rows.now.items in
    let count = c.args.count in
    let end = c.len-end.result in
    c.truncate.ensures.items ∙ ap (λ (u : List Row). take (end - count) u) c.copy_within.ensures.items ∙ shifted items count end c.requires (c.len-end.ensures ∙ c.args.rows.now.ok.0)

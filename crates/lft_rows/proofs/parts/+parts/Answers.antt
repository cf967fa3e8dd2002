use Rattle.std.proofs.Common.{rules, List, None, sym, subst}
use Rattle.lft_ir.specs.declared.steps.row.Row.{Row}
use Rattle.lft_rows.{specs.inner.Firsts.FirstRow, proofs.Together.{earlier_of, together}}
use Rattle.lft_rows.proofs.parts.+parts.Goals as goal

pub returns-then-one : goal.returns-then-one
returns-then-one g t c b =
    let stop = c.args.stop in
    let plan = c.args.plan.now in
    let first = c.in-Some.first.now in
    let second = c.in-Some.second.now in
    let cut = c.in-Some.ensures.parts in
    let one = c.join-one.ensures.first c.if-one.true in
    let other = c.join-one.ensures.second b in
    subst (λ (ts : List Row). FirstRow stop plan ts None) (sym cut.0) (together stop plan first second one other (earlier_of stop plan first second one other cut.1))

pub join-one-requires-after_bounds : goal.join-one-requires-after_bounds
join-one-requires-after_bounds g t c κs within =
    let one = c.in-Some.ensures.first c.args.plan.now.program c.requires in
    let other = c.in-Some.ensures.second c.args.plan.now.program c.requires in
    search (rules, one, other)

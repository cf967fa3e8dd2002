use Rattle.std.proofs.Common.{inl}
use Rattle.lft_log.{specs.Logs.rows, proofs.Finishing.{kept_to, odd_at_end, tells_plan}}
use Rattle.lft_log.proofs.log.Log.end_cut.Goals as goal

pub returns-in-Ok-Unbroken : goal.returns-in-Ok-Unbroken
returns-in-Ok-Unbroken c = λ base until whole bytes is begun.
    let plan = c.args.plan.now in
    let rest = c.args.self.now.rest.items in
    let t = rows is.kept.lines in
    (plan, t, rest, tells_plan base plan until bytes rest rest c.args.self.now is.kept (is.kept.begun begun), kept_to base plan until bytes rest c.args.self.now is.kept, is.open_line, (rw c.in-Ok-Unbroken.field-0-is at (c.in-Ok-Unbroken.ensures.ended t is.kept.follower.0)).1)

pub returns-in-Ok : goal.returns-in-Ok
returns-in-Ok c = λ base until whole bytes is begun.
    let plan = c.args.plan.now in
    let rest = c.args.self.now.rest.items in
    let t = rows is.kept.lines in
    (plan, t, rest, tells_plan base plan until bytes rest rest c.args.self.now is.kept (is.kept.begun begun), kept_to base plan until bytes rest c.args.self.now is.kept, is.open_line, inl (c.reach-reach.ensures t is.kept.follower.0))

pub returns-in-Err : goal.returns-in-Err
returns-in-Err c = λ base until whole bytes is begun.
    let plan = c.args.plan.now in
    let rest = c.args.self.now.rest.items in
    let t = rows is.kept.lines in
    odd_at_end base plan until bytes rest t c.in-Err.left (tells_plan base plan until bytes rest rest c.args.self.now is.kept (is.kept.begun begun)) (kept_to base plan until bytes rest c.args.self.now is.kept) (c.in-Err.ensures.unjudged t is.kept.follower.0)

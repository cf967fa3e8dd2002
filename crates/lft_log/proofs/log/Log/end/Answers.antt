use Rattle.std.proofs.Common.{[], List, ℕ, subst}
use Rattle.lft_log.{specs.Logs.{HoldSoFar, rows}, proofs.Finishing.{final_of, kept_to, odd_at_end, tells_plan}}
use Rattle.std.proofs.lemmas.List.{nil_from_length}
use Rattle.lft_log.proofs.log.Log.end.Goals as goal

pub returns-in-Ok : goal.returns-in-Ok
returns-in-Ok c = λ base until bytes is begun.
    let rest = c.args.self.now.rest.items in
    let held = subst (λ (x : List ℕ). HoldSoFar base.program bytes is.kept.lines [] x) (nil_from_length rest c.requires.none) (is.kept.begun begun) in
    final_of base c.args.plan.now until c.args.whole bytes rest c.args.self.now is.kept held c.in-Ok.ending (c.in-Ok.ensures.ended (rows is.kept.lines) is.kept.follower.0)

pub returns-in-Err : goal.returns-in-Err
returns-in-Err c = λ base until bytes is begun.
    let plan = c.args.plan.now in
    let rest = c.args.self.now.rest.items in
    let t = rows is.kept.lines in
    odd_at_end base plan until bytes rest t c.in-Err.left (tells_plan base plan until bytes rest rest c.args.self.now is.kept (is.kept.begun begun)) (kept_to base plan until bytes rest c.args.self.now is.kept) (c.in-Err.ensures.unjudged t is.kept.follower.0)

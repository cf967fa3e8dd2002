use Rattle.std.proofs.Common.{◌-◌, ◌<◌, sym, ◌∙◌, arith}
use Rattle.lft_report.{specs.Hops.way_back, proofs.Back.back_more}
use Rattle.lft_report.proofs.hops.way_back.Goals as goal

pub loop-left-preserved : goal.loop-left-preserved
loop-left-preserved c =
    let up : 0 < c.loop-left.left = c.loop-left-test.true in
    back_more c.args.program.now (way_back c.args.program.now 21 c.args.port) c.loop-left.way.items c.loop-left.left c.loop-left.at c.loop-left.invariant (c.loop-left.left - 1) c.in-Some.source c.push.new.self.items (omega arith) (sym c.in-Some.is ∙ c.source_into.ensures) c.in_ok-push-in-Some.ensures.items

use Rattle.lft_monitor.proofs.{Finished.{finished_law, told_law}, Rows.row_law, Staying.sure_law, Whole.whole_law, Dropped.dropped_law, Later.later_law}
use Rattle.lft_monitor.proofs.laws.law_sure.Goals as goal

pub returns : goal.returns
returns c = record {
  finished = finished_law c.args.plan.now;
  told = told_law c.args.plan.now;
  row = row_law c.args.plan.now;
  sure = sure_law c.args.plan.now;
  whole = whole_law c.args.plan.now;
  dropped = dropped_law c.args.plan.now;
  inputs = later_law c.args.plan.now;
}

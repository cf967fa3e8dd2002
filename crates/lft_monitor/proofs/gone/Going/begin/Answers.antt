use Rattle.std.proofs.Common.{refl}
use Rattle.lft_monitor.proofs.Passing.{begun}
use Rattle.lft_monitor.proofs.gone.Going.begin.Goals as goal

pub returns : goal.returns
returns c = λ done rows is. begun c.args.plan.now done rows _ is refl refl c.in_ok-begin.ensures

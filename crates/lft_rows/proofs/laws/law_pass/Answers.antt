use Rattle.lft_rows.proofs.Growing.{grown_law, nearer_law}
use Rattle.lft_rows.proofs.laws.law_pass.Goals as goal

pub returns : goal.returns
returns c = record { grown = grown_law c.args.plan.now; nearer = nearer_law c.args.plan.now }

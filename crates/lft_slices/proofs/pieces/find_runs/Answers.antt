use Rattle.lft_slices.proofs.Piecing.{runs_sorted}
use Rattle.lft_slices.proofs.pieces.find_runs.Goals as goal

pub returns-clause-runs : goal.returns-clause-runs
returns-clause-runs c = runs_sorted c.requires.rules.0 c.args.rows.now c.requires.rules.1 c.args.slice c.requires.slice c.add_starts.new.found.items c.sort_unstable.new.self.items c.in_ok-add_starts.ensures c.sort_unstable.ensures.permutation c.sort_unstable.ensures.sorted

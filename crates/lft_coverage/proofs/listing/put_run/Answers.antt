use Rattle.lft_coverage.proofs.Taking.{took_both}
use Rattle.lft_coverage.proofs.listing.put_run.Goals as goal

pub returns : goal.returns
returns g c = took_both (took_both (took_both (took_both c.put-whole.ensures c.put_reaction-whole.ensures) c.put-whole-2.ensures) c.put_number-whole.ensures) c.put.ensures

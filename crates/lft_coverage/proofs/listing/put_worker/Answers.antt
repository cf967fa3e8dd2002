use Rattle.std.proofs.Common.{ap}
use Rattle.std.specs.Prelude.{decimal}
use Rattle.lft_coverage.proofs.Taking.{took_both, took_so}
use Rattle.lft_coverage.proofs.listing.put_worker.Goals as goal

pub returns : goal.returns
returns g c = took_both (took_both (took_both (took_both c.put-whole.ensures (took_so (ap (λ n. decimal n) c.from.ensures) c.put_number-whole.ensures)) c.put-whole-2.ensures) c.put_number-whole-2.ensures) c.put.ensures

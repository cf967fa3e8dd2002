use Rattle.std.proofs.Common.{[], refl, rules}
use Rattle.lft_stream.proofs.batches.progress.JudgedRows.new.Goals as goal

pub returns : goal.returns
returns c = record { judged = []; stands = record { stands = c.in_ok-new.ensures; left = refl }; fit = search rules; all = c.new-2.ensures.items }

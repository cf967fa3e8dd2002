use Rattle.std.proofs.Common.{[]}
use Rattle.lft_rows.proofs.pass.Pass.new.Goals as goal

pub returns : goal.returns
returns c = record { effects = c.in_ok-effects.ensures; laid = (c.in_ok-known.ensures []).marked.are_before.is_laid }

use Rattle.std.proofs.Common.{subst}
use Rattle.lft_ir.specs.Parts.{Parts}
use Rattle.lft_coverage.specs.Sums.{TellsSums}
use Rattle.lft_coverage.proofs.driver.texts.told_text.Goals as goal

pub returns : goal.returns
returns c = let x = c.in_ok-push_told.ensures in (x.0, x.1, subst (λ (p : Parts). TellsSums p c.args.cover.now x.0) c.program.ensures.value x.2)

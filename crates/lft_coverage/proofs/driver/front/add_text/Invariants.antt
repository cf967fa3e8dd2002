use Rattle.std.proofs.Common.{◌++◌, length}
use Rattle.lft_ir.specs.Steps.Fits.{RowsFit}
use Rattle.lft_trace.specs.inner.Parts.{BeginsWith}
use Rattle.lft_coverage.specs.inner.Driver.Fronts.{IsFrontOfText, IsNextBehind, judged_rows}
use Rattle.lft_coverage.proofs.driver.front.add_text.Given as goal

abbrev pub invariant-loop-rest : goal.invariant-loop-rest
invariant-loop-rest l = record { stands : IsFrontOfText l.plan l.body l.front; fit : RowsFit l.plan.program l.waiting.items; next : IsNextBehind l.plan l.body l.front l.waiting.items; begins : BeginsWith l.plan.program l.body (judged_rows l.plan l.body l.front ++ l.waiting.items) l.rest }

abbrev pub decreases-loop-rest : goal.decreases-loop-rest
decreases-loop-rest l = length l.rest

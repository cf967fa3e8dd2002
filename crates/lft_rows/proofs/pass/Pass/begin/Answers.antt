use Rattle.std.proofs.Common.{subst, arith}
use Rattle.lft_ir.specs.Parts.{Parts}
use Rattle.lft_rows.specs.inner.Passes.{IsKnown}
use Rattle.lft_rows.proofs.pass.Pass.begin.Goals as goal

pub returns : goal.returns
returns c = λ stop t. record { effects = c.requires.effects; known = subst (λ (p : Parts). IsKnown p t 0 c.clear.new.self) c.program.ensures.value (c.in_ok-clear.ensures t); kept = λ j row k l. absurd (omega arith) }

use Rattle.std.proofs.Common.{Option, inr, subst}
use Rattle.lft_trace.specs.{inner.LogTables.StopsAt, declared.log_table.LineFault.LineFault}
use Rattle.lft_log.proofs.front.fault_behind.Goals as goal

pub returns-else-is_empty-clause-none : goal.returns-else-is_empty-clause-none
returns-else-is_empty-clause-none c = λ program records stops odd. inr (subst (λ (o : Option LineFault). StopsAt program records o) c.in-None.is stops, c.fault_of_odd.ensures odd)

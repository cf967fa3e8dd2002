use Rattle.std.proofs.Common.{◌++◌, take}
use Rattle.lft_trace.specs.inner.Telling.{rows_in}
use Rattle.lft_coverage.proofs.driver.front.Front.judge.Given as goal

abbrev pub ghost-count_next : goal.ghost-count_next
ghost-count_next a = (a.plan.now.program, take a.cover.now.rows (rows_in a.plan.now.program a.body.now) ++ a.rows.now)

use Rattle.lft_coverage.proofs.driver.covered.cover_rows.Given as goal

abbrev pub ghost-count_rows : goal.ghost-count_rows
ghost-count_rows g a = (a.plan.now.program, a.rows.now)

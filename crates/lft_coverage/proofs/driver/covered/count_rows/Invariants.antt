use Rattle.lft_coverage.proofs.driver.covered.count_rows.Given as goal

abbrev pub ghost-add : goal.ghost-add
ghost-add g a = g.of

use Rattle.lft_coverage.proofs.driver.front.count_next.Given as goal

abbrev pub ghost-add : goal.ghost-add
ghost-add g a = g.of

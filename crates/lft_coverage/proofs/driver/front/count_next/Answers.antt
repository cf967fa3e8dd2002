use Rattle.lft_coverage.proofs.driver.front.count_next.Goals as goal

pub add-requires : goal.add-requires
add-requires g c = (c.requires.0, (c.requires.1.0, (c.requires.1.1.0, (c.requires.1.1.1.0, c.requires.1.1.1.1.counts))))

use Rattle.lft_counts.proofs.overlaps.Overlaps.add.Given as goal

abbrev pub ghost-start : goal.ghost-start
ghost-start g a = g.here

abbrev pub ghost-end : goal.ghost-end
ghost-end g a = g.here

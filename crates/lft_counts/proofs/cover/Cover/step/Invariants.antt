use Rattle.lft_counts.proofs.cover.Cover.step.Given as goal

abbrev pub ghost-add : goal.ghost-add
ghost-add g a = g.here

abbrev pub ghost-add-2 : goal.ghost-add-2
ghost-add-2 g a = g.here

abbrev pub ghost-add-3 : goal.ghost-add-3
ghost-add-3 g a = g.here

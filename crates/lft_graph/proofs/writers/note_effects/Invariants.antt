use Rattle.lft_graph.proofs.Writing.{Noted}
use Rattle.lft_graph.proofs.writers.note_effects.Given as goal

abbrev pub invariant-effects : goal.invariant-effects
invariant-effects l = Noted l.effects l.reaction l.initial.writers l.writers l.place

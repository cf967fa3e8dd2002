use Rattle.std.specs.List.{All}
use Rattle.lft_text_diagnostics.proofs.candidates.find.Given as goal

abbrev pub invariant-loop-at : goal.invariant-loop-at
invariant-loop-at g l = All (g.T.Trial.stands l.trial) l.found.items

use Rattle.lft_program.proofs.Reaching.{Linking}
use Rattle.lft_program.proofs.nesting.linking.link_all.Given as goal

abbrev pub invariant-ports : goal.invariant-ports
invariant-ports l = Linking l.sources l.reached l.port l.links.items

use Rattle.lft_classes.specs.inner.Makings.{KnowsNone}
use Rattle.lft_classes.proofs.making.nothing.Given as goal

abbrev pub invariant-loop : goal.invariant-loop
invariant-loop l = KnowsNone l.list.items

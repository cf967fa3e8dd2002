use Rattle.std.proofs.Common.{arith}
use Rattle.lft_validate.{specs.inner.Members.behind, proofs.TwoMains.{none_main, some_main}}
use Rattle.lft_validate.proofs.mains.no_main.Goals as goal

pub returns-in-Some-clause-none : goal.returns-in-Some-clause-none
returns-in-Some-clause-none c = some_main (behind c.args.reactors.now) c.in-Some.field-0 c.in-Some.ensures.some.1

pub returns-in-None-clause-shows : goal.returns-in-None-clause-shows
returns-in-None-clause-shows c = none_main (behind c.args.reactors.now) (λ k a. c.in-None.ensures.none k (omega arith) a)

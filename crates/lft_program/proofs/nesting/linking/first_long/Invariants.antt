use Rattle.lft_program.specs.inner.Linking.{IsTooLong}
use Rattle.lft_program.proofs.nesting.linking.first_long.Given as goal

abbrev pub invariant-back : goal.invariant-back
invariant-back l = IsTooLong l.reached l.at

use Rattle.std.proofs.Common.{refl}
use Rattle.lft_lower.proofs.Standing.{at_one}
use Rattle.lft_lower.proofs.reactions.add_asleep.Goals as goal

pub returns-clause-at : goal.returns-clause-at
returns-clause-at c = at_one c.args.list.now.items _ _ _ _ c.in_ok-push.ensures.items refl refl

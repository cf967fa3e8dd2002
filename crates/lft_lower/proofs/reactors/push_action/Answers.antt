use Rattle.std.proofs.Common.{[], ◌∷◌, ap}
use Rattle.lft_lower.proofs.Standing.{at_one}
use Rattle.lft_lower.proofs.reactors.push_action.Goals as goal

pub returns-clause-at : goal.returns-clause-at
returns-clause-at c = at_one c.args.list.now.items _ _ _ _ c.in_ok-push.ensures.items c.in_ok-lowered_action.ensures.at (ap (λ ts. ts ∷ []) c.in_ok-lowered_action.ensures.times)

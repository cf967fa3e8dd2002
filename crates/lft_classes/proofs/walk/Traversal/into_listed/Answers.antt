use Rattle.lft_classes.proofs.{Listing.over_ordered, Walking.over}
use Rattle.lft_classes.proofs.walk.Traversal.into_listed.Goals as goal

pub returns-clause-list : goal.returns-clause-list
returns-clause-list c next first empty s = over next first _ _ _ _ empty s

pub returns-clause-order : goal.returns-clause-order
returns-clause-order c from first empty is = over_ordered from first _ _ empty is

use Rattle.std.proofs.Common.{List, IfOk, IfSome, sym, subst}
use Rattle.lft_tree.specs.Tree.{ReactorTree}
use Rattle.lft_validate.specs.Findings.{IsFinding}
use Rattle.lft_validate.proofs.twice.given_twice.Goals as goal

pub returns-in-Instance-clause-some : goal.returns-in-Instance-clause-some
returns-in-Instance-clause-some c = subst (λ m. IfOk c.instance_gives_twice.result (λ found. (rs : List ReactorTree) (r : ReactorTree) → IfSome found (IsFinding rs r m))) (sym c.in-Instance.is) c.instance_gives_twice.ensures.some

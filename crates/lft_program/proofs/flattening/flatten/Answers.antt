use Rattle.std.proofs.Common.{ap, subst, sym, ◌∙◌}
use Rattle.lft_tree.specs.View.{tree_view}
use Rattle.lft_resolve.specs.Causes.{IsFirst, causes, number_of}
use Rattle.lft_program.specs.inner.Refusals.{fault_of}
use Rattle.lft_program.proofs.flattening.flatten.Goals as goal

pub returns-in-Err-clause-first : goal.returns-in-Err-clause-first
returns-in-Err-clause-first c other =
    subst (λ f. IsFirst (causes (tree_view c.args.ast.now)) (number_of f)) (sym c.fault.ensures)
    (c.in-Err.ensures.first (λ e. other (c.fault.ensures ∙ ap fault_of e)))

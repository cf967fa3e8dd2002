use Rattle.std.proofs.Common.{◌≡◌, Any, Contains, sym, ap, subst, ◌∙◌}
use Rattle.lft_tree.specs.View.{ref_view}
use Rattle.lft_resolve.specs.Causes.{IsMisplaced}
use Rattle.lft_validate.specs.{Members.names_of, inner.Members.behind}
use Rattle.lft_validate.proofs.misplaced.misplaced_in_role.Goals as goal

pub returns-in-Some-clause-some : goal.returns-in-Some-clause-some
returns-in-Some-clause-some c rs r file own =
    let names : behind c.deref.result.now ≡ names_of c.args.role c.args.member.now = ap behind c.deref.ensures.value ∙ c.in_ok-names.ensures in
    let some = c.in-Some.ensures.some rs r file own in
    (subst (λ l. Contains l c.in-Some.name.now) names some.0, some.1)

pub returns-clause-none : goal.returns-clause-none
returns-clause-none c rs r file own a =
    let names : behind c.deref.result.now ≡ names_of c.args.role c.args.member.now = ap behind c.deref.ensures.value ∙ c.in_ok-names.ensures in
    c.in-None.ensures.none rs r file own (subst (Any (λ x. IsMisplaced rs r (c.args.role, ref_view x))) (sym names) a)

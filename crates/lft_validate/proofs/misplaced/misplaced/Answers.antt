use Rattle.std.proofs.Common.{◌≡◌, Any, ⊎_elim, sym, ap, subst, ◌∙◌}
use Rattle.lft_tree.specs.View.{time_view}
use Rattle.lft_resolve.specs.Causes.{IsMisplaced, IsMisplacedTime}
use Rattle.lft_validate.specs.{inner.{Members.behind, Shown.SomeName}, Members.times_of}
use Rattle.lft_lists.proofs.Options.{lacking}
use Rattle.lft_validate.proofs.misplaced.misplaced.Goals as goal

pub returns-clause-none : goal.returns-clause-none
returns-clause-none c rs r file own shows =
    let member = c.args.member.now in
    let timed : behind c.deref.result.now ≡ times_of member = ap behind c.deref.ensures.value ∙ c.in_ok-times.ensures in
    ⊎_elim
    (λ n. lacking (SomeName (IsMisplaced rs r) member → ⊥) c.in_ok-found.field-0 (c.in_ok-found.ensures.none rs r file own) c.in_default.is n)
    (λ t. c.in-None.ensures.none r own (subst (Any (λ t. IsMisplacedTime r (time_view t))) (sym timed) t))
    shows

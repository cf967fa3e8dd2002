use Rattle.std.proofs.Common.{◌≡◌, Any, Contains, sym, ap, subst, ◌∙◌}
use Rattle.lft_tree.specs.View.{time_view}
use Rattle.lft_resolve.specs.Causes.{IsUnknownTime}
use Rattle.lft_validate.specs.{Findings.IsFinding, Members.times_of, inner.Members.behind}
use Rattle.lft_validate.proofs.unknown.unknown_value_or_time.Goals.{in-Some-first_unknown_time, in-None}
use Rattle.lft_lists.proofs.Options.{found}
use Rattle.lft_validate.specs.declared.finding.Finding.TheVariants as finding
use Rattle.lft_validate.proofs.unknown.unknown_value_or_time.Goals as goal

pub returns-in_default-clause-some : goal.returns-in_default-clause-some
returns-in_default-clause-some c =
    let times : behind c.deref.result.now ≡ times_of c.args.member.now = ap behind c.deref.ensures.value ∙ c.in_ok-times.ensures in
    elim c.match-first_unknown_time.branch [
      | in-Some-first_unknown_time w ↦ rw w.result-is (λ rs r file own. (
          let some = w.in-Some-first_unknown_time.ensures.some r own in
          (subst (λ l. Contains l w.in-Some-first_unknown_time.time.now) times some.0, some.1)
          ))
      | in-None w ↦ rw w.result-is (λ rs r file own. tt)
    ]

pub returns-in_default-clause-none : goal.returns-in_default-clause-none
returns-in_default-clause-none c =
    let times : behind c.deref.result.now ≡ times_of c.args.member.now = ap behind c.deref.ensures.value ∙ c.in_ok-times.ensures in
    elim c.match-first_unknown_time.branch [
      | in-Some-first_unknown_time w ↦ rw w.result-is (λ rs r file own. tt)
      | in-None w ↦ rw w.result-is (λ rs r file own a. w.in-None.ensures.none r own (subst (Any (λ t. IsUnknownTime r (time_view t))) (sym times) a))
    ]

pub returns-clause-some : goal.returns-clause-some
returns-clause-some c rs r file own = found (λ p. IsFinding rs r c.args.member.now (finding.UnknownParameter p.0 p.1)) c.unknown_parameter.result (c.in-Some.instance, c.in-Some.value) (c.unknown_parameter.ensures.some rs r file) c.in-Some.is

use Rattle.std.proofs.Common.{Any, sym, subst}
use Rattle.lft_tree.specs.View.{reactor_view}
use Rattle.lft_validate.{specs.{Findings.IsFinding, inner.Shown.ShowsCause}, proofs.Listing.{none_all, none_next, some_at}}
use Rattle.lft_lists.proofs.Options.{found, lacking}
use Rattle.lft_validate.proofs.members.first_finding.Goals as goal

pub returns-in-Some-clause-some : goal.returns-in-Some-clause-some
returns-in-Some-clause-some c rs file own =
    let r = reactor_view c.args.reactor.now in
    let is = found (IsFinding rs r c.member-item.result) c.in_ok-found.field-0 c.in-Some.found (c.in_ok-found.ensures.some rs file own) c.in-Some.is in
    subst (Any (λ m. IsFinding rs r m c.in-Some.found)) c.deref-member-items.ensures.value (some_at (λ m. IsFinding rs r m c.in-Some.found) c.deref-member-items.result.now c.loop-member.member-index c.member-item.result c.loop-member-test.true (sym c.member-item.is) is)

pub loop-member-preserved : goal.loop-member-preserved
loop-member-preserved c rs file own =
    let r = reactor_view c.args.reactor.now in
    none_next (λ m. ShowsCause rs r m c.args.cause) c.deref-member-items.result.now c.loop-member.member-index c.member-item.result c.loop-member-test.true (sym c.member-item.is) (c.loop-member.invariant rs file own) (lacking (ShowsCause rs r c.member-item.result c.args.cause → ⊥) c.in_ok-found.field-0 (c.in_ok-found.ensures.none rs file own) c.in_default.is)

pub returns-clause-none : goal.returns-clause-none
returns-clause-none c rs file own =
    let r = reactor_view c.args.reactor.now in
    subst (λ l. Any (λ m. ShowsCause rs r m c.args.cause) l → ⊥) c.deref-member-items.ensures.value (none_all (λ m. ShowsCause rs r m c.args.cause) c.deref-member-items.result.now c.loop-member.member-index c.loop-member-test.false (c.loop-member.invariant rs file own))

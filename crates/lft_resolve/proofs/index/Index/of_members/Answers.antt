use Rattle.std.proofs.Common.{◌≡◌, ◌++◌, IfOk, filter_map, ap, subst, ◌∙◌}
use Rattle.lft_tree.specs.View.{member_views, reactor_view}
use Rattle.lft_resolve.{specs.inner.{Places.IsIndexOf, Tests.{name_in, member_names, texts}}, proofs.NamedMembers.named_members}
use Rattle.lft_resolve.proofs.index.Index.of_members.Goals as goal

pub returns : goal.returns
returns c =
    let names : texts c.deref-2.result.now ≡ member_names c.args.kind (reactor_view c.args.reactor.now) = ap texts c.deref-2.ensures.value ∙ c.in_ok-push_names.ensures ∙ ap (λ l. texts l ++ filter_map (name_in c.args.kind) (member_views c.deref.result.now)) c.new-names.ensures.items ∙ ap (λ l. filter_map (name_in c.args.kind) (member_views l)) c.deref.ensures.value ∙ named_members c.args.kind (reactor_view c.args.reactor.now) in
    subst (λ l. IfOk c.of.result (λ index. IsIndexOf index l)) names c.of.ensures

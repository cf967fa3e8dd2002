use Rattle.std.proofs.Common.{◌≡◌, ◌++◌, ℕ, List, map, filter_map, ap, ◌∙◌}
use Rattle.lft_tree.specs.View.{member_views, parameter_view, reactor_view}
use Rattle.lft_resolve.specs.{inner.Tests.{name_in, member_names, texts}, declared.names.Declared.TheVariants.{Port, Timer, Action, Instance}}
use Rattle.lft_resolve.proofs.NamedMembers.{named_members}
use Rattle.lft_resolve.proofs.names.declared_names.Goals as goal

-- five lists, each put behind what stood there
joined : (a b c d e t1 t2 t3 t4 t5 : List (List ℕ)) → t1 ≡ a → t2 ≡ t1 ++ b → t3 ≡ t2 ++ c → t4 ≡ t3 ++ d → t5 ≡ t4 ++ e → t5 ≡ a ++ b ++ c ++ d ++ e
joined a b c d e t1 t2 t3 t4 t5 e1 e2 e3 e4 e5 = cc

pub returns : goal.returns
returns c =
    let r = reactor_view c.args.reactor.now in
    let parameters : texts c.in_ok-names.names.items ≡ map (λ x. x.name) r.parameters = c.in_ok-names.ensures ∙ ap (λ l. map (λ x. x.name) (map parameter_view l)) c.deref.ensures.value in
    let ports : texts c.push_names.new.names.items ≡ texts c.in_ok-names.names.items ++ member_names Port r = c.in_ok-push_names.ensures ∙ ap (λ l. texts c.in_ok-names.names.items ++ filter_map (name_in Port) (member_views l)) c.deref-2.ensures.value ∙ ap (λ l. texts c.in_ok-names.names.items ++ l) (named_members Port r) in
    let timers : texts c.push_names-2.new.names.items ≡ texts c.push_names.new.names.items ++ member_names Timer r = c.in_ok-push_names-2.ensures ∙ ap (λ l. texts c.push_names.new.names.items ++ filter_map (name_in Timer) (member_views l)) c.deref-3.ensures.value ∙ ap (λ l. texts c.push_names.new.names.items ++ l) (named_members Timer r) in
    let actions : texts c.push_names-3.new.names.items ≡ texts c.push_names-2.new.names.items ++ member_names Action r = c.in_ok-push_names-3.ensures ∙ ap (λ l. texts c.push_names-2.new.names.items ++ filter_map (name_in Action) (member_views l)) c.deref-4.ensures.value ∙ ap (λ l. texts c.push_names-2.new.names.items ++ l) (named_members Action r) in
    let instances : texts c.push_names-4.new.names.items ≡ texts c.push_names-3.new.names.items ++ member_names Instance r = c.in_ok-push_names-4.ensures ∙ ap (λ l. texts c.push_names-3.new.names.items ++ filter_map (name_in Instance) (member_views l)) c.deref-5.ensures.value ∙ ap (λ l. texts c.push_names-3.new.names.items ++ l) (named_members Instance r) in
    joined _ _ _ _ _ _ _ _ _ _ parameters ports timers actions instances

use Rattle.std.proofs.Common.{sym, ap, ◌∙◌}
use Rattle.lft_tree.specs.View.{ref_views}
use Rattle.lft_lower.specs.inner.Meanings.{Meanings.{places_of, port_of, here}, Places.{inner_places, own_places, several, up_to}}
use Rattle.lft_lower.proofs.meanings.places.push_meant.Goals as goal

pub returns-in_ok-push_own-in-Own-clause-places : goal.returns-in_ok-push_own-in-Own-clause-places
returns-in_ok-push_own-in-Own-clause-places c =
    let old = ref_views c.args.list.now.items in
    let h = here c.args.within in
    c.in_ok-push_own-in-Own.ensures.places ∙ ap (λ x. up_to c.args.most old (own_places x)) c.thing.ensures ∙ ap (λ m. up_to c.args.most old (places_of h c.args.is_interleaved m)) (sym c.in-Own.is)

pub returns-in_ok-push_inner-in-Port-clause-places : goal.returns-in_ok-push_inner-in-Port-clause-places
returns-in_ok-push_inner-in-Port-clause-places c =
    let old = ref_views c.args.list.now.items in
    let h = here c.args.within in
    c.in_ok-push_inner-in-Port.ensures.places
    ∙ ap (λ x. up_to c.args.most old (inner_places (several c.member.result) x c.args.is_interleaved)) c.port.ensures
    ∙ ap (λ x. up_to c.args.most old (inner_places x (port_of h c.in-Port.instance c.in-Port.port) c.args.is_interleaved)) c.member.ensures
    ∙ ap (λ m. up_to c.args.most old (places_of h c.args.is_interleaved m)) (sym c.in-Port.is)

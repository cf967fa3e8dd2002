use Rattle.std.proofs.Common.{◌≡◌, ◌++◌, map, subst, ap, ◌∙◌}
use Rattle.std.specs.List.{All, flat_map}
use Rattle.lft_lower.specs.inner.{Meanings.{Meanings.{Means, all_places, here, token_in}, Standing.{all_tokens, ref_tokens}}, Lowered.effect_places}
use Rattle.lft_lower.specs.inner.Standing.{all_trigger_tokens, reaction_tokens, token_of_trigger}
use Rattle.lft_lower.proofs.{Adding.reaction_stands, Standing.{at_more, flat_one}}
use Rattle.lft_tree.specs.{Tree.ReactionMember, View.{ref_views, trigger_view}}
use Rattle.lft_lower.proofs.reactions.push_reaction.Goals as goal

pub returns-clause-means : goal.returns-clause-means
returns-clause-means c = record {
  triggers = c.in_ok-triggers.ensures.means;
  uses = subst (All (Means (here c.args.within))) c.deref.ensures.value c.in_ok-uses.ensures.means;
  effects = c.in_ok-effects.ensures.means;
}

pub returns-clause-lowered : goal.returns-clause-lowered
returns-clause-lowered c =
    let h = here c.args.within in
    let r = c.args.reaction.now in
    let ts = map trigger_view c.in_ok-triggers.triggers.items in
    let uses : ref_views c.in_ok-uses.uses.items ≡ all_places h r.uses.items = c.in_ok-uses.ensures.places ∙ ap (all_places h) c.deref.ensures.value in
    let effects : ref_views c.in_ok-effects.effects.items ≡ flat_map (effect_places h) r.effects.items = c.in_ok-effects.ensures.places in
    reaction_stands h r _ _ c.args.list.now.items _ _ _ ts c.in_ok-triggers.ensures.triggers c.in_ok-push.ensures.items (ap (λ us. ReactionMember (record { triggers = ts; uses = us; effects = ref_views c.in_ok-effects.effects.items })) uses ∙ ap (λ es. ReactionMember (record { triggers = ts; uses = all_places h r.uses.items; effects = es })) effects)

pub returns-clause-at : goal.returns-clause-at
returns-clause-at c =
    let number = token_in c.args.within in
    let h = here c.args.within in
    let r = c.args.reaction.now in
    let uses = ref_tokens c.in_ok-uses.uses.items in
    let effects = ref_tokens c.in_ok-effects.effects.items in
    let tokens : flat_map token_of_trigger c.in_ok-triggers.triggers.items ++ (uses ++ effects) ≡ reaction_tokens number h r = ap (λ ts. ts ++ (uses ++ effects)) c.in_ok-triggers.ensures.tokens
    ∙ ap (λ us. all_trigger_tokens number h r ++ (us ++ effects)) (c.in_ok-uses.ensures.tokens ∙ ap (all_tokens number h) c.deref.ensures.value)
    ∙ ap (λ es. all_trigger_tokens number h r ++ (all_tokens number h r.uses.items ++ es)) c.in_ok-effects.ensures.at in
    at_more c.args.list.now.items _ _ _ _ _ _ c.in_ok-triggers.ensures.at c.in_ok-push.ensures.items c.token-at.ensures (λ parts none. flat_one parts _ (reaction_tokens number h r) tokens none)

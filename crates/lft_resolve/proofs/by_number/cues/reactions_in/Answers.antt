use Rattle.std.proofs.Common.{◌≡◌, Any, map, filter_map, take, sym, ap, subst, ◌∙◌, arith}
use Rattle.std.{specs.List.AllZip, proofs.lemmas.{Grind.common_steps, Result.err_from_is_err_and}}
use Rattle.lft_tree.specs.{Tree.{ReactorTree, reaction_in, reactions_of}, View.{member_view, reaction_view}}
use Rattle.lft_resolve.specs.{inner.{Lost.IsLost, References.reaction_trees, Sheets.AreCues, Tables.IsOwn}, Kinds.reaction_refs}
use Rattle.lft_resolve.proofs.{Files.AllZip-last, Filtered.lost_reaction, Somes.some_here, Twice.map_last}
use Rattle.lft_resolve.proofs.by_number.cues.reactions_in.Goals.{After-deref-reaction-items}
use Rattle.lft_resolve.proofs.by_number.cues.reactions_in.Goals as goal

all : (c : After-deref-reaction-items) (r : ReactorTree) → IsOwn r c.args.own.now → reaction_trees c.deref-reaction-items.result.now ≡ reactions_of r
all c r own = ap reaction_trees c.deref-reaction-items.ensures.value ∙ c.in_ok-declared.ensures ∙ ap (λ ms. filter_map reaction_in (map member_view ms)) c.deref.ensures.value ∙ ap reactions_of own.reactor

pub returns-in_err-cues_of-clause-lost : goal.returns-in_err-cues_of-clause-lost
returns-in_err-cues_of-clause-lost c =
    let p = err_from_is_err_and c.from_residual-in_err-cues_of.result c.from_residual-in_err-cues_of.ensures.1 in
    rw (p.1, p.2)
    (λ other rs r file own. lost_reaction rs r (subst (Any (λ x. Any (IsLost rs r) (reaction_refs x))) (all ((goal.at.returns-in_err-cues_of-clause-lost c).After-deref-reaction-items) r own) (some_here (λ x. reaction_view x.now) (λ x. Any (IsLost rs r) (reaction_refs x)) c.deref-reaction-items.result.now c.loop-reaction.reaction-index c.reaction-item.result c.loop-reaction-test.true (sym c.reaction-item.is) (c.in_err-cues_of.ensures.lost other rs r file own))))

pub loop-reaction-preserved : goal.loop-reaction-preserved
loop-reaction-preserved c rs r file own =
    rw (c.in_ok-push.ensures.items, map_last (λ x. reaction_view x.now) c.deref-reaction-items.result.now c.loop-reaction.reaction-index c.reaction-item.result c.loop-reaction-test.true (sym c.reaction-item.is))
    (AllZip-last (AreCues rs r) (reaction_trees (take c.loop-reaction.reaction-index c.deref-reaction-items.result.now)) c.loop-reaction.reactions.items (reaction_view c.reaction-item.result.now) _ (c.loop-reaction.invariant rs r file own) (c.in_ok-cues_of.ensures.ok rs r file own))

pub returns-clause-ok : goal.returns-clause-ok
returns-clause-ok c rs r file own =
    let whole : take c.loop-reaction.reaction-index c.deref-reaction-items.result.now ≡ c.deref-reaction-items.result.now = grind (arith, common_steps) in
    subst (λ l. AllZip (AreCues rs r) l c.loop-reaction.reactions.items) (ap reaction_trees whole ∙ all ((goal.at.returns-clause-ok c).After-deref-reaction-items) r own) (c.loop-reaction.invariant rs r file own)

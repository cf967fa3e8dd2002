use Rattle.std.proofs.Common.{◌≡◌, Any, Contains, ⊎_elim, map, sym, ap, subst, ◌∙◌}
use Rattle.lft_tree.specs.View.{reactor_view, ref_view}
use Rattle.lft_resolve.specs.{Causes.IsTwice, Kinds.{destinations_in, effects_in}, inner.References.ref_trees}
use Rattle.lft_validate.{specs.inner.Members.behind, proofs.{Listing.trees_of, Sound.{all_destinations, all_effects}}}
use Rattle.lft_lists.proofs.Options.{lacking}
use Rattle.lft_validate.proofs.sources.written_twice.Goals as goal

pub returns-clause-none : goal.returns-clause-none
returns-clause-none c writes =
    let r = c.args.reactor.now in
    let one : ref_trees c.deref.result.now ≡ destinations_in (reactor_view r) = trees_of c.deref.result.now ∙ ap (map ref_view) (ap behind c.deref.ensures.value ∙ c.in_ok-destinations.ensures) ∙ all_destinations r in
    let two : ref_trees c.deref-2.result.now ≡ destinations_in (reactor_view r) = trees_of c.deref-2.result.now ∙ ap (map ref_view) (ap behind c.deref-2.ensures.value ∙ c.in_ok-destinations.ensures) ∙ all_destinations r in
    let three : ref_trees c.deref-3.result.now ≡ effects_in (reactor_view r) = trees_of c.deref-3.result.now ∙ ap (map ref_view) (ap behind c.deref-3.ensures.value ∙ c.in_ok-effects.ensures) ∙ all_effects r in
    let once = lacking (IsTwice (ref_trees c.deref.result.now) → ⊥) c.in_ok-first.field-0 c.in_ok-first.ensures.none c.in_default.is in
    let apart = lacking (Any (λ ref. Contains (ref_trees c.deref-3.result.now) ref) (ref_trees c.deref-2.result.now) → ⊥) c.in_ok-joined.field-0 c.in_ok-joined.ensures.none c.in-None.is in
    ⊎_elim
    (λ t. once (subst IsTwice (sym one) t))
    (λ s. apart (subst (λ l. Any (λ ref. Contains l ref) (ref_trees c.deref-2.result.now)) (sym three) (subst (Any (λ ref. Contains (effects_in (reactor_view r)) ref)) (sym two) s)))
    writes

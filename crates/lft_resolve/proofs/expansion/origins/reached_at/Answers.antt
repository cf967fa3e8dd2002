use Rattle.std.proofs.Common.{◌≡◌, ◌<◌, [], ◌++◌, refl, sym, ap, ◌∙◌, subst, Some, slice_get, option_to_list}
use Rattle.std.{specs.Prelude.IfSome, proofs.lemmas.Option.slice_get_within}
use Rattle.lft_lists.proofs.Places.{same_some}
use Rattle.lft_resolve.specs.{declared.expansion.origins.Reached.Reached, inner.Expansion.Sources.{IsReached, itself, over}}
use Rattle.lft_resolve.proofs.expansion.origins.reached_at.Goals.{In-Some}
use Rattle.lft_resolve.proofs.expansion.origins.reached_at.Goals as goal

pub returns-in-None : goal.returns-in-None
returns-in-None c = record { delays = []; origin = itself (c.item_at.ensures ∙ ap Some c.in-None.is); folded = sym c.none.ensures }

-- what is known of the source
known : (c : goal.In-Some) → (r : Reached) × (slice_get c.args.all.now c.in-Some.source.port ≡ Some r) × IsReached c.args.sources.now c.in-Some.source.port r × IfSome r.shift (λ x. x.steps < 100000)
known c = c.requires.source c.in-Some.source (c.item_at.ensures ∙ ap Some c.in-Some.is)

pub item_at-before-requires : goal.item_at-before-requires
item_at-before-requires c = let k = known ((goal.at.item_at-before-requires c).In-Some) in slice_get_within c.args.all.now c.in-Some.source.port k.0 k.1

pub extended-requires : goal.extended-requires
extended-requires c =
    let k = known ((goal.at.extended-requires c).In-Some) in
    let same : k.0 ≡ c.item_at-before.result = same_some (slice_get c.args.all.now c.in-Some.source.port) k.0 c.item_at-before.result k.1 c.item_at-before.ensures in
    subst (λ r. IfSome r.shift (λ x. x.steps < 100000)) same k.3

pub returns-in-Some : goal.returns-in-Some
returns-in-Some c =
    let source = c.in-Some.source in
    let k = known ((goal.at.returns-in-Some c).In-Some) in
    let same : k.0 ≡ c.item_at-before.result = same_some (slice_get c.args.all.now source.port) k.0 c.item_at-before.result k.1 c.item_at-before.ensures in
    let r : IsReached c.args.sources.now source.port c.item_at-before.result = subst (IsReached c.args.sources.now source.port) same k.2 in
    record { delays = r.delays ++ option_to_list source.delay; origin = over source r.delays (c.item_at.ensures ∙ ap Some c.in-Some.is) r.origin refl; folded = c.extended.ensures r.delays r.folded }

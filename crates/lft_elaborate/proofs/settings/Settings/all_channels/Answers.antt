use Rattle.std.proofs.Common.{◌≡◌, ◌<◌, ◌+◌, ◌++◌, [], ◌∷◌, List, length, take, sym, subst, arith}
use Rattle.std.proofs.lemmas.Grind.{common_steps}
use Rattle.lft_lists.proofs.Picked.{take_one_more}
use Rattle.lft_whole.specs.declared.tree.Reference.{Reference}
use Rattle.lft_elaborate.specs.inner.{Noted.table, Places.{HavePlaces, capped}}
use Rattle.lft_elaborate.proofs.{Counting.{no_places, places_push}, Keeping.{goes_further, goes_nowhere}, Standing.places_then}
use Rattle.lft_elaborate.proofs.settings.Settings.all_channels.Goals as goal

pub loop-reference-init : goal.loop-reference-init
loop-reference-init c = record { goes = goes_nowhere _; places = λ t made at. no_places c.args.self.now.shapes.items t }

pub loop-reference-preserved : goal.loop-reference-preserved
loop-reference-preserved c =
    let s = c.args.self.now in
    let rs = c.args.references.now in
    let i = c.loop-reference.reference-index in
    let within : i < length rs = omega arith in
    let more : take (i + 1) rs ≡ take i rs ++ c.reference-item.result ∷ [] = take_one_more rs i c.reference-item.result within (sym c.reference-item.is) in
    record {
      goes = goes_further _ _ _ c.loop-reference.invariant.goes c.in_ok-places.ensures.goes;
      places = λ t made at. subst (λ n. HavePlaces s.shapes.items t (take (i + 1) rs) n) (sym c.saturating_add-all.ensures) (subst (λ (l : List Reference). HavePlaces s.shapes.items t l (capped (c.loop-reference.all + c.in_ok-places.places))) (sym more) (places_push s.shapes.items t (take i rs) c.reference-item.result c.loop-reference.all c.in_ok-places.places (c.loop-reference.invariant.places t made at) (places_then (table s) (table c.loop-reference.self) c.loop-reference.invariant.goes c.args.setting t made at c.reference-item.result c.in_ok-places.places c.in_ok-places.ensures.places)));
    }

pub returns-clause-places : goal.returns-clause-places
returns-clause-places c t made at =
    let rs = c.args.references.now in
    let whole : take c.loop-reference.reference-index rs ≡ rs = grind (arith, common_steps) in
    subst (λ (l : List Reference). HavePlaces c.args.self.now.shapes.items t l c.loop-reference.all) whole (c.loop-reference.invariant.places t made at)

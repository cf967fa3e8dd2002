use Rattle.std.proofs.Common.{◌≡◌, ◌<◌, ◌∷◌, [], Some, length, length-append, ◌+◌, ap, ◌∙◌, arith}
use Rattle.std.proofs.lemmas.{Grind.common_steps, Option.slice_get-get_or}
use Rattle.lft_program.{specs.inner.Laying.name_at, proofs.Making.{made_all, made_more}}
use Rattle.lft_program.proofs.spots.names.Goals as goal

pub name-requires : goal.name-requires
name-requires c =
    let within : c.loop-spot.spot-index < length c.args.spots.now = omega arith in
    c.requires c.loop-spot.spot-index _ (slice_get-get_or c.args.spots.now c.loop-spot.spot-index _ within)

pub loop-spot-preserved : goal.loop-spot-preserved
loop-spot-preserved c =
    let within : c.loop-spot.spot-index < length c.args.spots.now = omega arith in
    let long = length-append c.loop-spot.names.items (c.name.result ∷ []) ∙ ap (λ n. n + 1) c.loop-spot.invariant.0 in
    rw c.in_ok-push.ensures.items
    (long, made_more (λ _ x y. name_at c.args.nest.now c.args.instance x ≡ Some y) c.args.spots.now c.loop-spot.names.items c.loop-spot.spot-index _ c.name.result c.loop-spot.invariant.0 c.loop-spot.invariant.1 (slice_get-get_or c.args.spots.now c.loop-spot.spot-index _ within) c.name.ensures)

pub returns : goal.returns
returns c =
    let all : length c.loop-spot.names.items ≡ length c.args.spots.now = grind (arith, common_steps) in
    rw c.from_vec.ensures (made_all (λ x y. name_at c.args.nest.now c.args.instance x ≡ Some y) c.args.spots.now c.loop-spot.names.items all c.loop-spot.invariant.1)

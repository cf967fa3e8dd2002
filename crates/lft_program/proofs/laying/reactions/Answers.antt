use Rattle.std.proofs.Common.{◌≡◌, ◌<◌, ◌∷◌, [], length, ◌+◌, ap, ◌∙◌, arith, length-append}
use Rattle.std.proofs.lemmas.Grind.{common_steps}
use Rattle.lft_program.{specs.inner.Laying.IsReactionAt, proofs.{ByNumber.item_there, SpotsLaid.{reaction_for, reactions_are}, Making.made_more}}
use Rattle.lft_program.proofs.laying.reactions.Goals as goal

pub reaction-requires : goal.reaction-requires
reaction-requires c =
    let within : c.loop-number.number < length c.in_ok-things.things.items = grind (arith, common_steps) in
    let at = item_there c.in_ok-things.things.items c.loop-number.number c.index.result.now within c.index.ensures in
    let of = c.requires in
    reaction_for of.0 c.args.tables.now c.args.nest.now c.args.links.now of.1 c.in_ok-things.things.items (c.in_ok-things.ensures of.0 c.args.tables.now of.1.is_nest) c.loop-number.number c.index.result.now at

pub loop-number-preserved : goal.loop-number-preserved
loop-number-preserved c =
    let within : c.loop-number.number < length c.in_ok-things.things.items = grind (arith, common_steps) in
    let at = item_there c.in_ok-things.things.items c.loop-number.number c.index.result.now within c.index.ensures in
    let long = length-append c.loop-number.reactions.items (c.in_ok-reaction.field-0 ∷ []) ∙ ap (λ n. n + 1) c.loop-number.invariant.0 in
    rw c.in_ok-push.ensures.items
    (long, made_more (λ _. IsReactionAt c.args.tables.now c.args.nest.now) c.in_ok-things.things.items c.loop-number.reactions.items c.loop-number.number c.index.result.now c.in_ok-reaction.field-0 c.loop-number.invariant.0 c.loop-number.invariant.1 at c.in_ok-reaction.ensures)

pub returns : goal.returns
returns c = λ tree of. (
    let all : length c.loop-number.reactions.items ≡ length c.in_ok-things.things.items = grind (arith, common_steps) in
    reactions_are tree c.args.tables.now c.args.nest.now c.args.links.now of c.in_ok-things.things.items (c.in_ok-things.ensures tree c.args.tables.now of.is_nest) c.loop-number.reactions.items all c.loop-number.invariant.1)

use Rattle.std.proofs.Common.{◌≡◌, ◌<◌, ◌∷◌, [], length, ◌+◌, ap, ◌∙◌, arith, length-append}
use Rattle.std.proofs.lemmas.Grind.{common_steps}
use Rattle.lft_program.{specs.inner.Laying.IsActionAt, proofs.{ByNumber.item_there, LaidOut.{action_for, actions_are}, Making.made_more}}
use Rattle.lft_program.proofs.laying.actions.Goals as goal

pub action-requires : goal.action-requires
action-requires c =
    let within : c.loop-number.number < length c.in_ok-things.things.items = grind (arith, common_steps) in
    let at = item_there c.in_ok-things.things.items c.loop-number.number c.index.result.now within c.index.ensures in
    let of = c.requires in
    action_for of.0 c.args.tables.now c.args.nest.now c.args.links.now of.1 c.in_ok-things.things.items (c.in_ok-things.ensures of.0 c.args.tables.now of.1.is_nest) c.loop-number.number c.index.result.now at

pub loop-number-preserved : goal.loop-number-preserved
loop-number-preserved c =
    let within : c.loop-number.number < length c.in_ok-things.things.items = grind (arith, common_steps) in
    let at = item_there c.in_ok-things.things.items c.loop-number.number c.index.result.now within c.index.ensures in
    let long = length-append c.loop-number.actions.items (c.action.result ∷ []) ∙ ap (λ n. n + 1) c.loop-number.invariant.0 in
    rw c.in_ok-push.ensures.items
    (long, made_more (λ _. IsActionAt c.args.tables.now c.args.nest.now) c.in_ok-things.things.items c.loop-number.actions.items c.loop-number.number c.index.result.now c.action.result c.loop-number.invariant.0 c.loop-number.invariant.1 at c.action.ensures)

pub returns : goal.returns
returns c = λ tree of. (
    let all : length c.loop-number.actions.items ≡ length c.in_ok-things.things.items = grind (arith, common_steps) in
    actions_are tree c.args.tables.now c.args.nest.now c.args.links.now of c.in_ok-things.things.items (c.in_ok-things.ensures tree c.args.tables.now of.is_nest) c.loop-number.actions.items all c.loop-number.invariant.1)

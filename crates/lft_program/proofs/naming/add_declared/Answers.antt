use Rattle.std.proofs.Common.{◌∙◌, arith}
use Rattle.std.proofs.lemmas.Option.{slice_get-get_or}
use Rattle.lft_program.{specs.inner.Extended.dotted, proofs.Extending.{step_low, step_fresh, step_more, step_done}}
use Rattle.lft_program.proofs.naming.add_declared.Goals as goal

pub dotted_name-requires : goal.dotted_name-requires
dotted_name-requires c =
    let at = slice_get-get_or c.args.things.now c.loop-thing.thing-index _ (omega arith) in
    step_low dotted c.args.things.now c.loop-thing.thing-index c.args.texts.now c.loop-thing.texts c.loop-thing.invariant _ at c.requires.after

pub push_new-requires : goal.push_new-requires
push_new-requires c =
    let at = slice_get-get_or c.args.things.now c.loop-thing.thing-index _ (omega arith) in
    record { new = step_fresh dotted c.args.things.now c.loop-thing.thing-index c.args.texts.now c.loop-thing.texts c.loop-thing.invariant _ at c.requires.distinct _ c.in_ok-dotted_name.ensures }

pub loop-thing-preserved : goal.loop-thing-preserved
loop-thing-preserved c =
    let at = slice_get-get_or c.args.things.now c.loop-thing.thing-index _ (omega arith) in
    c.in_ok-push_new.ensures ∙ step_more dotted c.args.things.now c.loop-thing.thing-index c.args.texts.now c.loop-thing.texts c.loop-thing.invariant _ at _ c.in_ok-dotted_name.ensures

pub returns : goal.returns
returns c = step_done dotted c.args.things.now c.loop-thing.thing-index c.args.texts.now c.loop-thing.texts c.loop-thing.invariant (omega arith)

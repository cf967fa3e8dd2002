use Rattle.std.proofs.Common.{◌∙◌, arith}
use Rattle.std.proofs.lemmas.Option.{slice_get-get_or}
use Rattle.lft_program.{specs.inner.Extended.hashed, proofs.Extending.{step_low, step_fresh, step_more, step_done}}
use Rattle.lft_program.proofs.naming.add_placed.Goals as goal

pub hashed_name-requires : goal.hashed_name-requires
hashed_name-requires c =
    let at = slice_get-get_or c.args.reactions.now c.loop-reaction.reaction-index _ (omega arith) in
    step_low hashed c.args.reactions.now c.loop-reaction.reaction-index c.args.texts.now c.loop-reaction.texts c.loop-reaction.invariant _ at c.requires.after

pub push_new-requires : goal.push_new-requires
push_new-requires c =
    let at = slice_get-get_or c.args.reactions.now c.loop-reaction.reaction-index _ (omega arith) in
    record { new = step_fresh hashed c.args.reactions.now c.loop-reaction.reaction-index c.args.texts.now c.loop-reaction.texts c.loop-reaction.invariant _ at c.requires.distinct _ c.in_ok-hashed_name.ensures }

pub loop-reaction-preserved : goal.loop-reaction-preserved
loop-reaction-preserved c =
    let at = slice_get-get_or c.args.reactions.now c.loop-reaction.reaction-index _ (omega arith) in
    c.in_ok-push_new.ensures ∙ step_more hashed c.args.reactions.now c.loop-reaction.reaction-index c.args.texts.now c.loop-reaction.texts c.loop-reaction.invariant _ at _ c.in_ok-hashed_name.ensures

pub returns : goal.returns
returns c = step_done hashed c.args.reactions.now c.loop-reaction.reaction-index c.args.texts.now c.loop-reaction.texts c.loop-reaction.invariant (omega arith)

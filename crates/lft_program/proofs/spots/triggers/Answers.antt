use Rattle.std.proofs.Common.{◌≡◌, ◌<◌, ◌∷◌, [], Some, length, length-append, ◌+◌, ap, ◌∙◌, arith}
use Rattle.std.proofs.lemmas.{Grind.common_steps, Option.slice_get-get_or}
use Rattle.lft_program.{specs.inner.Laying.trigger_at, proofs.Making.{made_all, made_more}}
use Rattle.lft_program.proofs.spots.triggers.Goals as goal

pub trigger-requires : goal.trigger-requires
trigger-requires c =
    let within : c.loop-cue.cue-index < length c.args.cues.now = omega arith in
    c.requires c.loop-cue.cue-index _ (slice_get-get_or c.args.cues.now c.loop-cue.cue-index _ within)

pub loop-cue-preserved : goal.loop-cue-preserved
loop-cue-preserved c =
    let within : c.loop-cue.cue-index < length c.args.cues.now = omega arith in
    let long = length-append c.loop-cue.triggers.items (c.trigger.result ∷ []) ∙ ap (λ n. n + 1) c.loop-cue.invariant.0 in
    rw c.in_ok-push.ensures.items
    (long, made_more (λ _ x y. trigger_at c.args.nest.now c.args.instance x ≡ Some y) c.args.cues.now c.loop-cue.triggers.items c.loop-cue.cue-index _ c.trigger.result c.loop-cue.invariant.0 c.loop-cue.invariant.1 (slice_get-get_or c.args.cues.now c.loop-cue.cue-index _ within) c.trigger.ensures)

pub returns : goal.returns
returns c =
    let all : length c.loop-cue.triggers.items ≡ length c.args.cues.now = grind (arith, common_steps) in
    rw c.in_ok-triggers.ensures (made_all (λ x y. trigger_at c.args.nest.now c.args.instance x ≡ Some y) c.args.cues.now c.loop-cue.triggers.items all c.loop-cue.invariant.1)

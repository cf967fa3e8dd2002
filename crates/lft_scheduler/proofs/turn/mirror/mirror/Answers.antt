use Rattle.std.proofs.Common.{◌∙◌, arith}
use Rattle.lft_lists.proofs.Places.{contains_at}
use Rattle.lft_scheduler.proofs.{Blocking.inside, Mirroring.{mirrored_none, mirrored_more}}
use Rattle.lft_scheduler.proofs.turn.mirror.mirror.Goals as goal

pub note-requires : goal.note-requires
note-requires c = record { inside = λ i a e. (let m = inside c.requires.program.0 c.args.graph.now c.requires.program.2 c.reactions.reaction a c.before-mine.result.now c.before-mine.ensures (contains_at c.before-mine.result.now i a e) in let s = c.reactions.invariant.as_long in omega arith) }

pub reactions-init : goal.reactions-init
reactions-init c = mirrored_none c.args.graph.now.before c.in_ok-after.after (c.in_ok-after.ensures.long ∙ c.requires.count) c.in_ok-after.ensures.none

pub reactions-preserved : goal.reactions-preserved
reactions-preserved c = mirrored_more c.args.graph.now.before c.reactions.reaction c.before-mine.result.now c.reactions.after c.note.new.after c.reactions.invariant c.before-mine.ensures c.in_ok-note.ensures

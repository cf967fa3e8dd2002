use Rattle.lft_lists.proofs.Members.{mem_get, mem_contains}
use Rattle.lft_stream.proofs.start_tags.StartTags.begin_all.Goals as goal

pub begin-requires : goal.begin-requires
begin-requires c = record { reaction = c.requires.exist c.item_at.result (mem_contains c.item_at.result c.args.started.now (mem_get c.args.started.now c.loop-place.place c.item_at.result c.item_at.ensures)); long = c.loop-place.invariant.long }

pub loop-place-preserved : goal.loop-place-preserved
loop-place-preserved c = record {
  long = c.begin.ensures.long;
  starts = λ whole ran old. c.begin.ensures.starts whole (ran c.item_at.result (mem_contains c.item_at.result c.args.started.now (mem_get c.args.started.now c.loop-place.place c.item_at.result c.item_at.ensures))) (c.loop-place.invariant.starts whole ran old);
}

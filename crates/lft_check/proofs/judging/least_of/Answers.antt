use Rattle.lft_check.proofs.Whole.{least_from}
use Rattle.lft_check.proofs.judging.least_of.Goals as goal

pub returns : goal.returns
returns c = least_from c.args.sliced.now c.keeps.ensures.rules c.args.slices.now c.requires.slices c.args.low c.args.clash c.requires.clash c.requires.early c.args.missing c.requires.missing c.args.inner c.requires.inner c.of_clash.result c.of_missing.result c.lesser-later.result c.lesser.result c.of_clash.ensures c.of_missing.ensures c.lesser-later.ensures c.lesser.ensures

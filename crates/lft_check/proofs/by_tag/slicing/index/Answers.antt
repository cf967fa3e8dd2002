use Rattle.lft_check.proofs.ByTagLemmas.Indexed.{rises_of}
use Rattle.lft_check.proofs.by_tag.slicing.index.Goals as goal

pub slices_of-requires : goal.slices_of-requires
slices_of-requires c = rises_of c.args.plan.now c.args.rows.now c.requires.rules.kept

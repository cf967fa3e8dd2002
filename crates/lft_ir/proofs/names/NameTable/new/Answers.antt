use Rattle.lft_ir.proofs.Ranges.{AreDistinct-names_from}
use Rattle.lft_ir.proofs.names.NameTable.new.Goals as goal

pub returns-clause-distinct : goal.returns-clause-distinct
returns-clause-distinct c = AreDistinct-names_from c.args.texts c.args.starts c.requires c.keeps.ensures.distinct

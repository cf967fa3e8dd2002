use Rattle.std.proofs.Common.{arith}
use Rattle.lft_ir.proofs.Positions.{found_text, missing_text}
use Rattle.lft_ir.proofs.texts.Texts.find.Goals as goal

pub returns-clause-some : goal.returns-clause-some
returns-clause-some c = grind (arith, c.get_index_of.ensures.index, c.self.view_is, found_text c.args.text.now c.self.inside.set.keys)

pub returns-clause-none : goal.returns-clause-none
returns-clause-none c = grind (arith, c.get_index_of.ensures.index, c.self.view_is, missing_text c.args.text.now c.self.inside.set.keys)

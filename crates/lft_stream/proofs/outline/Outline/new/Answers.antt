use Rattle.std.proofs.Common.{refl}
use Rattle.lft_stream.proofs.Outlining.{outline_none}
use Rattle.lft_stream.proofs.outline.Outline.new.Goals as goal

pub returns : goal.returns
returns c = λ u. outline_none u (record { started = c.new.result; reads = 0; effects = c.none.result }) c.new.ensures.items refl (c.none.ensures u)

use Rattle.std.proofs.Common.{refl}
use Rattle.lft_stream.proofs.Outlining.{span_effects}
use Rattle.lft_stream.proofs.outline.Outline.effects.Goals as goal

pub returns : goal.returns
returns c = let is = c.requires.effects in record { first = c.args.self.now.effects.first; end = c.args.self.now.effects.end; in_order = is.in_order; within = is.within; is_part = refl; same = span_effects c.args.own.now c.args.self.now.effects is }

use Rattle.std.proofs.Common.{refl}
use Rattle.lft_scheduler.proofs.Mirroring.{mirror_inside, mirror_once}
use Rattle.lft_scheduler.proofs.turn.Turn.change.Goals as goal

pub change-requires-clause-inside : goal.change-requires-clause-inside
change-requires-clause-inside c = mirror_inside c.self.inside.graph.before c.self.inside.after c.self.invariant.mirror

pub change-requires-clause-once : goal.change-requires-clause-once
change-requires-clause-once c = mirror_once c.self.inside.graph.before c.self.inside.after c.self.invariant.mirror c.self.invariant.program.0 c.self.inside.graph c.self.invariant.program.2 refl

use Rattle.lft_pair.proofs.Differing.{port_told, action_told}
use Rattle.lft_pair.proofs.contrasting.effects.effect.Goals as goal

pub returns-in-Port : goal.returns-in-Port
returns-in-Port c = port_told c.args.mine.now c.args.theirs.now c.in-Port.port c.args.effect c.in-Port.is c.written.result c.written.ensures

pub returns-in-Action : goal.returns-in-Action
returns-in-Action c = action_told c.args.mine.now c.args.theirs.now c.in-Action.action c.args.effect c.in-Action.is c.scheduled.result c.scheduled.ensures

use Rattle.lft_ir.proofs.Origins.{origin_inside}
use Rattle.lft_queue.proofs.coming.listeners.heard_at.Goals as goal

pub returns-then-is_undelayed-clause-known : goal.returns-then-is_undelayed-clause-known
returns-then-is_undelayed-clause-known c = origin_inside (c.port.ensures.sound.origins c.in-Port.number c.port.result.now c.port.ensures.value).1

use Rattle.lft_rows.proofs.PresenceLemmas.Presences.{value_from}
use Rattle.lft_rows.proofs.presence.events.Presence.value_from.Goals as goal

pub returns-in-Some : goal.returns-in-Some
returns-in-Some c = value_from c.args.self.now.plan c.args.self.now.rows c.args.name (c.args.shift.time, c.args.shift.steps) c.args.tag c.in-Some.cause c.carried.result c.in-Some.ensures c.carried.ensures

use Rattle.lft_rows.proofs.presence.events.Presence.last_cause.Goals as goal

pub returns : goal.returns
returns c = c.last_cause.ensures c.args.self.now.plan c.args.self.now.rows c.causes.ensures

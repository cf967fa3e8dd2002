use Rattle.std.proofs.Common.{refl}
use Rattle.lft_tables.proofs.Ahead.{next-left}
use Rattle.lft_tables.proofs.records.Records.give.Goals as goal

pub returns-then-self-clause-many : goal.returns-then-self-clause-many
returns-then-self-clause-many g c = (refl, λ p. record { left = next-left g.R.Read.remaining c.args.self.now p c.requires; full = c.if-self.true })

pub returns-clause-next : goal.returns-clause-next
returns-clause-next g c p = record { plain = p; left = next-left g.R.Read.remaining c.args.self.now p c.requires; line = refl; within = c.if-self.false; last = refl }

use Rattle.std.proofs.Common.{length, ◌≡◌, refl, false, true}
use Rattle.lft_counts.proofs.Going.{skipped, started}
use Rattle.lft_counts.proofs.orders.Orders.add.Goals as goal

pub start-requires : goal.start-requires
start-requires g c = (c.requires.0, (c.requires.1.0, (started g.here.trace g.here.place c.args.row (c.if-is_start.ensures.0 refl) c.requires.1.1.0, (c.requires.1.1.1.0, c.requires.1.1.1.1))))

pub returns-else-is_start-clause-stands : goal.returns-else-is_start-clause-stands
returns-else-is_start-clause-stands g c = skipped g.here.trace (length g.here.program.reactions) g.here.place c.args.row c.args.self.now c.requires.1.1.0 (λ e. let z : ◌≡◌ false true = c.if-is_start.ensures.1 e in absurd (cc)) c.requires.1.0

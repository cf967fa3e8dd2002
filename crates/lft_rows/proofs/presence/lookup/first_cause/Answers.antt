use Rattle.std.proofs.Common.{refl, arith}
use Rattle.lft_rows.proofs.PresenceLemmas.{Lists.not_true, Lookups.{first_end, first_leads, first_leads_not}}
use Rattle.lft_rows.proofs.presence.lookup.first_cause.Goals as goal

pub returns-then-place-causes : goal.returns-then-place-causes
returns-then-place-causes c plan t are = first_end plan t c.args.causes.now are c.args.key (c.args.shift.time, c.args.shift.steps) c.args.tag c.position-place.result c.position-place.ensures (omega arith)

pub returns-then-leads : goal.returns-then-leads
returns-then-leads c plan t are = first_leads plan t c.args.causes.now are c.args.key (c.args.shift.time, c.args.shift.steps) c.args.tag c.position-place.result c.position-place.ensures c.item_at-first.result c.item_at-first.ensures (c.if-leads.ensures.0 refl)

pub returns-else-leads : goal.returns-else-leads
returns-else-leads c plan t are = first_leads_not plan t c.args.causes.now are c.args.key (c.args.shift.time, c.args.shift.steps) c.args.tag c.position-place.result c.position-place.ensures c.item_at-first.result c.item_at-first.ensures (λ l. not_true (c.if-leads.ensures.1 l))

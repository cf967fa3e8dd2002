use Rattle.std.proofs.Common.{◌-◌, refl, arith}
use Rattle.lft_rows.proofs.PresenceLemmas.{Lists.not_true, Presences.{none_stands, last_leads, last_leads_not}}
use Rattle.lft_rows.proofs.presence.lookup.last_cause.Goals as goal

pub returns-then-end-eq0 : goal.returns-then-end-eq0
returns-then-end-eq0 c plan t are = none_stands plan t c.args.causes.now are c.args.key (c.args.shift.time, c.args.shift.steps) c.args.tag c.position-end.result c.position-end.ensures c.if-end-eq0.true

pub returns-then-leads : goal.returns-then-leads
returns-then-leads c plan t are = last_leads plan t c.args.causes.now are c.args.key (c.args.shift.time, c.args.shift.steps) c.args.tag c.position-end.result c.position-end.ensures c.item_at-last.result (c.position-end.result - 1) (omega arith) c.item_at-last.ensures (c.if-leads.ensures.0 refl)

pub returns-else-leads : goal.returns-else-leads
returns-else-leads c plan t are = last_leads_not plan t c.args.causes.now are c.args.key (c.args.shift.time, c.args.shift.steps) c.args.tag c.position-end.result c.position-end.ensures c.item_at-last.result (c.position-end.result - 1) (omega arith) c.item_at-last.ensures (λ l. not_true (c.if-leads.ensures.1 l))

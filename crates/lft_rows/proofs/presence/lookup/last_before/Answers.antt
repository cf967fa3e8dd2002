use Rattle.std.proofs.Common.{◌-◌, arith}
use Rattle.lft_rows.proofs.PresenceLemmas.Lookups.{before_none, before_last, before_other}
use Rattle.lft_rows.proofs.presence.lookup.last_before.Goals as goal

pub returns-then-end-eq0 : goal.returns-then-end-eq0
returns-then-end-eq0 c plan t are = before_none plan t c.args.causes.now are c.args.key (c.args.shift.time, c.args.shift.steps) c.args.tag c.position-end.result c.position-end.ensures c.if-end-eq0.true

pub returns-then-last-key : goal.returns-then-last-key
returns-then-last-key c plan t are = before_last plan t c.args.causes.now are c.args.key (c.args.shift.time, c.args.shift.steps) c.args.tag c.position-end.result c.position-end.ensures c.item_at-last.result (c.position-end.result - 1) (omega arith) c.item_at-last.ensures (omega arith)

pub returns-else-last-key : goal.returns-else-last-key
returns-else-last-key c plan t are = before_other plan t c.args.causes.now are c.args.key (c.args.shift.time, c.args.shift.steps) c.args.tag c.position-end.result c.position-end.ensures c.item_at-last.result (c.position-end.result - 1) (omega arith) c.item_at-last.ensures (λ e. omega arith)

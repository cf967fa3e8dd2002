use Rattle.std.proofs.Common.{arith}
use Rattle.lft_rows.proofs.PresenceLemmas.Lookups.{after_end, after_first, after_other}
use Rattle.lft_rows.proofs.presence.lookup.first_after.Goals as goal

pub returns-then-place-causes : goal.returns-then-place-causes
returns-then-place-causes c plan t are = after_end plan t c.args.causes.now are c.args.key (c.args.shift.time, c.args.shift.steps) c.args.tag c.position-place.result c.position-place.ensures (omega arith)

pub returns-then-first-key : goal.returns-then-first-key
returns-then-first-key c plan t are = after_first plan t c.args.causes.now are c.args.key (c.args.shift.time, c.args.shift.steps) c.args.tag c.position-place.result c.position-place.ensures c.item_at-first.result c.item_at-first.ensures (omega arith)

pub returns-else-first-key : goal.returns-else-first-key
returns-else-first-key c plan t are = after_other plan t c.args.causes.now are c.args.key (c.args.shift.time, c.args.shift.steps) c.args.tag c.position-place.result c.position-place.ensures c.item_at-first.result c.item_at-first.ensures (λ e. omega arith)

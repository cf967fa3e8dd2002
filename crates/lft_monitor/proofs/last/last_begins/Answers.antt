use Rattle.std.proofs.Common.{arith, refl}
use Rattle.std.proofs.lemmas.Bool.{false≢true}
use Rattle.lft_monitor.proofs.Judging.{begins_before, begins_none, begins_other, begins_all, last_one}
use Rattle.lft_monitor.proofs.last.last_begins.Goals as goal

pub returns-then-end-eq0 : goal.returns-then-end-eq0
returns-then-end-eq0 c = begins_none c.args.rows.now c.args.end c.if-end-eq0.true

pub loop-passed-init : goal.loop-passed-init
loop-passed-init c = last_one c.args.rows.now c.args.end

pub returns-then-not-is_same : goal.returns-then-not-is_same
returns-then-not-is_same c = begins_other c.args.rows.now c.args.end c.loop-passed.passed c.row_at-in-loop-passed.result c.row_at.result (omega arith) (omega arith) c.loop-passed.invariant c.row_at-in-loop-passed.ensures c.row_at.ensures (λ e. false≢true (c.if-not-is_same.ensures.1 e))

pub loop-passed-preserved : goal.loop-passed-preserved
loop-passed-preserved c = begins_before c.args.rows.now c.args.end c.loop-passed.passed c.row_at-in-loop-passed.result c.row_at.result (omega arith) c.loop-passed.invariant c.row_at-in-loop-passed.ensures c.row_at.ensures (c.if-not-is_same.ensures.0 refl)

pub returns : goal.returns
returns c = begins_all c.args.rows.now c.args.end c.loop-passed.passed (omega arith) (omega arith) c.loop-passed.invariant

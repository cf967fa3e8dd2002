use Rattle.std.proofs.Common.{◌+◌, ◌<◌, length, arith, subst}
use Rattle.lft_ir.specs.Parts.{Parts}
use Rattle.lft_rows.{specs.inner.Passes.IsKnown, proofs.Whole.keep_more}
use Rattle.lft_rows.proofs.pass.Pass.go_on.Goals as goal

pub add-requires-clause-kept : goal.add-requires-clause-kept
add-requires-clause-kept c = let l : c.loop-place.place < length c.args.rows.now = omega arith in (c.args.stop, c.args.plan.now, keep_more c.args.stop c.args.plan.now c.args.rows.now c.loop-place.place l c.loop-place.invariant.kept c.in_default.ensures)

pub loop-place-preserved : goal.loop-place-preserved
loop-place-preserved c = let l : c.loop-place.place < length c.args.rows.now = omega arith in record { effects = c.loop-place.invariant.effects; known = subst (λ (p : Parts). IsKnown p c.args.rows.now (c.loop-place.place + 1) c.add.new.self) c.program-program.ensures.value c.in_ok-add.ensures; kept = keep_more c.args.stop c.args.plan.now c.args.rows.now c.loop-place.place l c.loop-place.invariant.kept c.in_default.ensures }

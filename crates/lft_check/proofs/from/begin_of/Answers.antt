use Rattle.std.proofs.Common.{length, refl, arith}
use Rattle.lft_rows.proofs.PresenceLemmas.Lists.{not_true}
use Rattle.lft_check.proofs.Beginning.{begins_here, none_begins, one_below}
use Rattle.lft_check.proofs.from.begin_of.Goals as goal

pub returns-then-not-is_before-clause-begin : goal.returns-then-not-is_before-clause-begin
returns-then-not-is_before-clause-begin c = begins_here c.requires.0 c.args.slices.now c.requires.1 c.args.low c.loop-place.place c.item_at.result c.item_at.ensures (λ b. not_true (c.if-not-is_before.ensures.1 b)) c.loop-place.invariant

pub loop-place-preserved : goal.loop-place-preserved
loop-place-preserved c = one_below c.args.slices.now c.args.low c.loop-place.place c.item_at.result c.item_at.ensures (c.if-not-is_before.ensures.0 refl) c.loop-place.invariant

pub returns-clause-begin : goal.returns-clause-begin
returns-clause-begin c = none_begins c.args.slices.now c.args.low (length c.args.slices.now) (omega arith) (λ k x l e. c.loop-place.invariant k x (omega arith) e)

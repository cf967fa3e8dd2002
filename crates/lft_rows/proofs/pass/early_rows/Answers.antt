use Rattle.std.proofs.Common.{◌≡◌, ◌+◌, ◌<◌, length, arith, subst, refl}
use Rattle.lft_lists.proofs.Places.{get_there}
use Rattle.lft_ir.specs.Parts.{Parts}
use Rattle.lft_rows.{specs.inner.Passes.{IsKnown, KeepsEarly, Holds}, proofs.Whole.keep_more}
use Rattle.lft_rows.proofs.pass.early_rows.Goals as goal

pub loop-place-init : goal.loop-place-init
loop-place-init c = record { known = c.requires.known; kept = λ j row k l. absurd (omega arith) }

pub returns-in-Some-clause-early : goal.returns-in-Some-clause-early
returns-in-Some-clause-early c =
    let l : c.loop-place.place < length c.args.rows.now = omega arith in
    let x = get_there c.args.rows.now c.loop-place.place l in
    let e = c.in-Some.ensures x.0 x.1 in
    record { within = omega arith; kept = c.loop-place.invariant.kept; held = c.loop-place.invariant.known.held; rule = (x.0, x.1, e.0, e.1, e.2) }

pub add-requires-clause-kept : goal.add-requires-clause-kept
add-requires-clause-kept c = let l : c.loop-place.place < length c.args.rows.now = omega arith in (c.args.stop, c.args.plan.now, keep_more c.args.stop c.args.plan.now c.args.rows.now c.loop-place.place l c.loop-place.invariant.kept c.in_default.ensures)

pub loop-place-preserved : goal.loop-place-preserved
loop-place-preserved c = let l : c.loop-place.place < length c.args.rows.now = omega arith in record { known = subst (λ (p : Parts). IsKnown p c.args.rows.now (c.loop-place.place + 1) c.add.new.self) c.program-program.ensures.value c.in_ok-add.ensures; kept = keep_more c.args.stop c.args.plan.now c.args.rows.now c.loop-place.place l c.loop-place.invariant.kept c.in_default.ensures }

pub returns-clause-early : goal.returns-clause-early
returns-clause-early c =
    let e : c.loop-place.place ≡ length c.args.rows.now = omega arith in
    record { within = omega arith; kept = subst (λ z. KeepsEarly c.args.stop c.args.plan.now c.args.rows.now z) e c.loop-place.invariant.kept; held = subst (λ z. Holds c.args.rows.now z z c.loop-place.known.runs) e c.loop-place.invariant.known.held; rule = refl }

use Rattle.std.proofs.Common.{ℕ, ◌≡◌, subst, arith}
use Rattle.lft_rows.{specs.inner.Marks.AreMarks, proofs.Marked.marks_begin}
use Rattle.lft_rows.proofs.marks.Marks.pass_all.Goals as goal

pub loop-place-init : goal.loop-place-init
loop-place-init c = marks_begin c.args.program.now c.args.rows.now c.args.first c.args.self.now c.requires.before

pub pass-requires-clause-marks : goal.pass-requires-clause-marks
pass-requires-clause-marks c = (c.args.first, omega arith, c.loop-place.invariant)

pub loop-place-preserved : goal.loop-place-preserved
loop-place-preserved c = c.pass.ensures c.args.first (omega arith) c.loop-place.invariant

pub returns : goal.returns
returns c = let e : c.loop-place.place ≡ c.args.end = omega arith in subst (λ (i : ℕ). AreMarks c.args.program.now c.args.rows.now c.args.first i c.loop-place.self) e c.loop-place.invariant

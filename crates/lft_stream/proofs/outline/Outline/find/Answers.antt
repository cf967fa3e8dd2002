use Rattle.std.proofs.Common.{◌≡◌, ℕ, length, refl, subst, arith}
use Rattle.lft_stream.{specs.inner.Outlines.IsOutlineTo, proofs.Outlining.outline_none}
use Rattle.lft_stream.proofs.outline.Outline.find.Goals as goal

pub loop-place-init : goal.loop-place-init
loop-place-init c = outline_none c.args.own.now (record { started = c.clear.new.self; reads = 0; effects = c.none-self.result }) c.clear.ensures.items refl (c.none-self.ensures c.args.own.now)

pub loop-place-preserved : goal.loop-place-preserved
loop-place-preserved c = c.if-not-pass.ensures refl c.loop-place.invariant

pub returns : goal.returns
returns c = λ z. let e : c.loop-place.place ≡ length c.args.own.now = omega arith in subst (λ (n : ℕ). IsOutlineTo c.args.own.now n c.loop-place.self) e c.loop-place.invariant

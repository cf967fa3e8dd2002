use Rattle.std.proofs.Common.{subst, refl}
use Rattle.lft_ir.specs.Steps.Inputs.{ExternalInputs}
use Rattle.lft_queue.specs.inner.Coming.Coming.{AreOver}
use Rattle.lft_stream.proofs.Keeping.{accepts_kept}
use Rattle.lft_stream.proofs.stream.Stream.finish.Goals as goal

pub returns-then-is_over : goal.returns-then-is_over
returns-then-is_over c = λ t is. accepts_kept c.args.plan.now t c.args.self.now is (c.if-none_owed.ensures refl) (subst (λ (x : ExternalInputs). AreOver x.events c.args.self.now.listeners c.args.self.now.stop c.args.self.now.coming) c.externals.ensures.value (c.if-is_over.ensures refl))

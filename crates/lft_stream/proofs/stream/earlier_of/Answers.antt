use Rattle.std.proofs.Common.{refl, sym}
use Rattle.std.proofs.lemmas.Bool.{false≢true}
use Rattle.lft_stream.proofs.Stopping.{earlier_is, earlier_not}
use Rattle.lft_stream.proofs.stream.earlier_of.Goals as goal

pub returns-then-is_before : goal.returns-then-is_before
returns-then-is_before c = sym (earlier_is c.args.tag c.args.other (c.if-is_before.ensures.0 refl))

pub returns-else-is_before : goal.returns-else-is_before
returns-else-is_before c = sym (earlier_not c.args.tag c.args.other (λ b. false≢true (c.if-is_before.ensures.1 b)))

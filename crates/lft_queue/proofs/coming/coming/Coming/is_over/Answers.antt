use Rattle.std.proofs.Common.{refl}
use Rattle.lft_queue.proofs.ComingLemmas.ToCome.{are_over}
use Rattle.lft_queue.proofs.coming.coming.Coming.is_over.Goals as goal

pub returns-then-reach : goal.returns-then-reach
returns-then-reach c = λ z. are_over c.args.externals.now.events c.args.listeners.now c.args.stop c.args.self.now c.reach.new.self (c.if-reach.ensures refl) (c.are_unheard.ensures z)

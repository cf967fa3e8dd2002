use Rattle.std.proofs.Common.{refl, ◌∙◌}
use Rattle.lft_queue.proofs.ComingLemmas.ToCome.{is_reached}
use Rattle.lft_queue.proofs.coming.coming.Coming.reach.Goals as goal

pub returns-then-bring : goal.returns-then-bring
returns-then-bring c = λ z. is_reached c.args.externals.now.events c.args.listeners.now c.args.tag c.args.self.now c.bring.new.self c.pass.new.self (c.if-bring.ensures.same refl) (c.if-bring.ensures.brought refl) c.if-bring.ensures.taken c.pass.ensures.next (c.if-not-is_clear.ensures.0 refl) (c.pass.ensures.clash ∙ c.if-bring.ensures.clash) (c.pass.ensures.passed z)

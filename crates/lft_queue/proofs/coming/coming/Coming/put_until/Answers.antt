use Rattle.std.proofs.Common.{refl, ap, ◌∙◌}
use Rattle.lft_tag.proofs.Order.{UpTo-refl}
use Rattle.lft_queue.{specs.{declared.coming.coming.Coming.Coming, inner.Coming.Coming.to_come}, proofs.ComingLemmas.ToCome.{none_put, put_adds}}
use Rattle.lft_queue.proofs.coming.coming.Coming.put_until.Goals as goal

pub returns-then-is_before-clause-put : goal.returns-then-is_before-clause-put
returns-then-is_before-clause-put c = λ z events h n up clear. none_put c.args.last c.args.tag c.args.name c.args.value (c.if-is_before.ensures.0 refl) (to_come events c.args.self.now h n) h n up

pub returns-in-Ok-clause-put : goal.returns-in-Ok-clause-put
returns-in-Ok-clause-put c = λ z events h n up clear. put_adds events c.args.self.now c.put.new.self c.args.tag c.args.name c.args.value c.put.ensures.next c.in-Ok.ensures.absent c.in-Ok.ensures.put h n

pub returns-in-Err-Collision-clause-put : goal.returns-in-Err-Collision-clause-put
returns-in-Err-Collision-clause-put c = λ z events h n up clear. c.note.ensures.same events h n ∙ ap (λ (k : Coming). to_come events k h n) c.in-Err-Collision.ensures.err ∙ none_put h c.args.tag c.args.name c.args.value ((c.note.ensures.clear h).0 clear).1 (to_come events c.args.self.now h n) h n (UpTo-refl h)

use Rattle.lft_scheduler.proofs.ToldTurns.{told_called}
use Rattle.lft_scheduler.proofs.telling.tell.Goals as goal

pub returns-clause-told : goal.returns-clause-told
returns-clause-told c = told_called c.args.plan.now.program c.args.queue.now c.args.stop c.args.tag c.is_same-is_first.result c.is_same-is_last.result c.args.turn.now c.tell_of.new.turn c.tell_of-2.new.turn c.tell_timers.new.turn c.tell_names.new.turn c.is_same-is_first.ensures c.is_same-is_last.ensures c.tell_of.ensures c.tell_of-2.ensures c.tell_timers.ensures.told c.tell_names.ensures

use Rattle.lft_scheduler.proofs.Filling.{all_listed}
use Rattle.lft_scheduler.proofs.listeners.Listeners.new.Goals as goal

pub returns : goal.returns
returns c = all_listed c.args.program.now (record { by_trigger = c.in_ok-by_trigger.by_trigger; live_timers = c.in_ok-live_timers.live_timers.items }) c.in_ok-by_trigger.ensures c.in_ok-live_timers.ensures

use Rattle.std.proofs.Common.{◌≡◌, Some, slice_get, subst}
use Rattle.lft_ir.specs.Parts.{Parts}
use Rattle.lft_check.proofs.ByTagLemmas.Missed.{lacked_startup, lacked_shutdown, lacked_timer, lacked_trigger_name}
use Rattle.lft_check.proofs.by_tag.missing.lacked_trigger.Goals as goal

pub returns-in-Startup-clause-least : goal.returns-in-Startup-clause-least
returns-in-Startup-clause-least c = lacked_startup c.args.presence.now c.args.trigger c.args.low c.args.tags.now c.lacked_at.result c.in-Startup.is c.lacked_at.ensures.least

pub returns-in-Shutdown-clause-least : goal.returns-in-Shutdown-clause-least
returns-in-Shutdown-clause-least c = lacked_shutdown c.args.presence.now c.args.trigger c.args.low c.args.tags.now c.stop.result c.lacked_at-in-Shutdown.result c.in-Shutdown.is c.stop.ensures.value c.lacked_at-in-Shutdown.ensures.least

pub returns-in-Timer-clause-least : goal.returns-in-Timer-clause-least
returns-in-Timer-clause-least c = lacked_timer c.args.presence.now c.args.trigger c.args.low c.args.tags.now c.in-Timer.number c.timer-timer.result.now c.lacked_firing.result c.in-Timer.is (subst (λ (p : Parts). slice_get p.timers c.in-Timer.number ≡ Some c.timer-timer.result.now) c.program.ensures.value c.timer-timer.ensures.value) c.lacked_firing.ensures.least

pub returns-in-On-clause-least : goal.returns-in-On-clause-least
returns-in-On-clause-least c = lacked_trigger_name c.args.presence.now c.args.trigger c.in-On.name c.args.low c.args.tags.now c.lacked_name.result c.in-On.is c.lacked_name.ensures.least

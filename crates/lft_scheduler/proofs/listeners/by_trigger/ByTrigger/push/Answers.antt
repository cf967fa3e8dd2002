use Rattle.std.proofs.Common.{◌≡◌, ◌<◌, ℕ, List, length, sym, subst, rules}
use Rattle.lft_ir.specs.declared.parts.{Name.TheVariants.{Port, Action}, Trigger.{Trigger, TheVariants.{Startup, Shutdown, Timer, On}}}
use Rattle.lft_scheduler.specs.inner.Lists.{TriggerLists, HasList, IsPushed}
use Rattle.lft_scheduler.proofs.Pushing.{startup_pushed, shutdown_pushed, timer_pushed, port_pushed, action_pushed}
use Rattle.lft_scheduler.proofs.listeners.by_trigger.ByTrigger.push.Goals as goal

pub returns-in_ok-push-in-Startup : goal.returns-in_ok-push-in-Startup
returns-in_ok-push-in-Startup c =
    let i = c.self.inside in
    let old : TriggerLists = record { startup = i.startup.items; shutdown = i.shutdown.items; timers = i.timers; ports = i.ports; actions = i.actions } in
    let pushed = subst (λ (l : List ℕ). IsPushed Startup c.args.reaction old (record old { startup = l })) (sym c.in_ok-push-in-Startup.ensures.items) (startup_pushed old c.args.reaction) in
    subst (λ (t : Trigger). IsPushed t c.args.reaction c.args.self.now (record old { startup = c.push.new.self.items })) (sym c.in-Startup.is) (subst (λ (o : TriggerLists). IsPushed Startup c.args.reaction o (record old { startup = c.push.new.self.items })) c.self.view_is pushed)

pub returns-in_ok-push-in-Shutdown : goal.returns-in_ok-push-in-Shutdown
returns-in_ok-push-in-Shutdown c =
    let i = c.self.inside in
    let old : TriggerLists = record { startup = i.startup.items; shutdown = i.shutdown.items; timers = i.timers; ports = i.ports; actions = i.actions } in
    let pushed = subst (λ (l : List ℕ). IsPushed Shutdown c.args.reaction old (record old { shutdown = l })) (sym c.in_ok-push-in-Shutdown.ensures.items) (shutdown_pushed old c.args.reaction) in
    subst (λ (t : Trigger). IsPushed t c.args.reaction c.args.self.now (record old { shutdown = c.push-in-Shutdown.new.self.items })) (sym c.in-Shutdown.is) (subst (λ (o : TriggerLists). IsPushed Shutdown c.args.reaction o (record old { shutdown = c.push-in-Shutdown.new.self.items })) c.self.view_is pushed)

pub returns-in_ok-push-in-Timer : goal.returns-in_ok-push-in-Timer
returns-in_ok-push-in-Timer c =
    let i = c.self.inside in
    let old : TriggerLists = record { startup = i.startup.items; shutdown = i.shutdown.items; timers = i.timers; ports = i.ports; actions = i.actions } in
    let n = c.in-Timer.timer in
    let within : n < length i.timers = subst (λ (o : TriggerLists). HasList o (Timer n)) (sym c.self.view_is) (subst (λ (t : Trigger). HasList c.args.self.now t) c.in-Timer.is c.requires) in
    let pushed = subst (λ (l : List (List ℕ)). IsPushed (Timer n) c.args.reaction old (record old { timers = l })) (sym c.in_ok-push-in-Timer.ensures) (timer_pushed old c.args.reaction n within) in
    subst (λ (t : Trigger). IsPushed t c.args.reaction c.args.self.now (record old { timers = c.push-in-Timer.new.self })) (sym c.in-Timer.is) (subst (λ (o : TriggerLists). IsPushed (Timer n) c.args.reaction o (record old { timers = c.push-in-Timer.new.self })) c.self.view_is pushed)

pub returns-in_ok-push-in-On-Port : goal.returns-in_ok-push-in-On-Port
returns-in_ok-push-in-On-Port c =
    let i = c.self.inside in
    let old : TriggerLists = record { startup = i.startup.items; shutdown = i.shutdown.items; timers = i.timers; ports = i.ports; actions = i.actions } in
    let n = c.in-On-Port.port in
    let is : c.args.trigger ≡ On (Port n) = search rules in
    let within : n < length i.ports = subst (λ (o : TriggerLists). HasList o (On (Port n))) (sym c.self.view_is) (subst (λ (t : Trigger). HasList c.args.self.now t) is c.requires) in
    let pushed = subst (λ (l : List (List ℕ)). IsPushed (On (Port n)) c.args.reaction old (record old { ports = l })) (sym c.in_ok-push-in-On-Port.ensures) (port_pushed old c.args.reaction n within) in
    subst (λ (t : Trigger). IsPushed t c.args.reaction c.args.self.now (record old { ports = c.push-in-On-Port.new.self })) (sym is) (subst (λ (o : TriggerLists). IsPushed (On (Port n)) c.args.reaction o (record old { ports = c.push-in-On-Port.new.self })) c.self.view_is pushed)

pub returns-in_ok-push-in-On-Action : goal.returns-in_ok-push-in-On-Action
returns-in_ok-push-in-On-Action c =
    let i = c.self.inside in
    let old : TriggerLists = record { startup = i.startup.items; shutdown = i.shutdown.items; timers = i.timers; ports = i.ports; actions = i.actions } in
    let n = c.in-On-Action.action in
    let is : c.args.trigger ≡ On (Action n) = search rules in
    let within : n < length i.actions = subst (λ (o : TriggerLists). HasList o (On (Action n))) (sym c.self.view_is) (subst (λ (t : Trigger). HasList c.args.self.now t) is c.requires) in
    let pushed = subst (λ (l : List (List ℕ)). IsPushed (On (Action n)) c.args.reaction old (record old { actions = l })) (sym c.in_ok-push-in-On-Action.ensures) (action_pushed old c.args.reaction n within) in
    subst (λ (t : Trigger). IsPushed t c.args.reaction c.args.self.now (record old { actions = c.push-in-On-Action.new.self })) (sym is) (subst (λ (o : TriggerLists). IsPushed (On (Action n)) c.args.reaction o (record old { actions = c.push-in-On-Action.new.self })) c.self.view_is pushed)

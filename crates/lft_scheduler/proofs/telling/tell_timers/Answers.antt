use Rattle.std.proofs.Common.{◌<◌, ◌∷◌, [], List, IsTrue, true, refl, sym, subst, length}
use Rattle.lft_tag.specs.Tags.{Before}
use Rattle.lft_ir.specs.{Parts.Parts, declared.parts.Trigger.TheVariants.Timer}
use Rattle.lft_scheduler.specs.{inner.{Listeners.IsListener, Firings.{AreFirstFirings, IsMoved}}, declared.firings.Firing.Firing}
use Rattle.lft_scheduler.proofs.{ToldTurns.{told_as, live_within}, Taking.{none_taken, taken_more, all_taken, told_taken, told_at_first, told_one_timer}}
use Rattle.lft_scheduler.proofs.telling.tell_timers.Goals as goal

pub due-init : goal.due-init
due-init c = ([], none_taken c.args.plan.now.program c.args.tag c.args.firings.now c.requires.firings, told_at_first c.args.plan.now.program c.args.turn.now)

pub take-requires-clause-timers : goal.take-requires-clause-timers
take-requires-clause-timers c = λ f k. subst (λ (p : Parts). f.timer < length p.timers) (sym c.program.ensures.value) (live_within c.args.plan.now.program f.timer (c.due.invariant.1.only f k).0)

pub due-preserved : goal.due-preserved
due-preserved c =
    let program = c.args.plan.now.program in
    let g = c.args.tag in
    let n = c.in-Some.timer in
    let taken = c.due.invariant.0 in
    let moved : IsMoved program g n c.due.firings c.take.new.self = subst (λ (p : Parts). IsMoved p g n c.due.firings c.take.new.self) c.program.ensures.value c.in-Some.ensures.some in
    (n ∷ taken, taken_more program g taken n c.due.firings c.take.new.self c.due.invariant.1 moved, told_one_timer program taken n c.args.turn.now c.due.turn c.tell_of.new.turn c.due.invariant.2 (told_as (λ r. IsTrue true × IsListener program (Timer n) r) (λ r. IsListener program (Timer n) r) c.due.turn c.tell_of.new.turn (λ r p. p.1) (λ r p. (refl, p)) c.tell_of.ensures))

pub returns-clause-told : goal.returns-clause-told
returns-clause-told c = told_taken c.args.plan.now.program c.args.tag c.due.invariant.0 c.due.firings c.due.invariant.1 c.in_default.ensures.over c.args.turn.now c.due.turn c.due.invariant.2

pub returns-clause-firings : goal.returns-clause-firings
returns-clause-firings c = subst (λ (fs : List Firing). AreFirstFirings c.args.plan.now.program (λ h. Before c.args.tag h) fs) (sym c.in_default.ensures.none) (all_taken c.args.plan.now.program c.args.tag c.due.invariant.0 c.due.firings c.due.invariant.1 c.in_default.ensures.over)

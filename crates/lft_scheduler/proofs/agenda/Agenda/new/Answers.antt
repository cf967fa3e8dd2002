use Rattle.std.proofs.Common.{◌≡◌, ◌≤◌, ◌∙◌, ℕ, List, [], length, replicate, sym, ap, subst}
use Rattle.lft_tag.specs.{declared.Tag.Tag, Tags.UpTo}
use Rattle.lft_ir.specs.{Parts.Parts, Steps.Inputs.ExternalInputs}
use Rattle.lft_graph.specs.Graph.{GraphParts, IsGraphOf}
use Rattle.lft_scheduler.specs.declared.turn.phase.Phase.TheVariants.{Idle}
use Rattle.lft_scheduler.specs.declared.open.OpenRun.{OpenRun}
use Rattle.lft_scheduler.specs.inner.{Listeners.{AreListeners, AreArrivals}, OpenRuns.AreOpen, Telling.{IsTold, TriggeredByQueue}, Firings.AreFirstFirings}
use Rattle.lft_scheduler.specs.inner.Agendas.{IsCurrent, IsReached, MayAdvance}
use Rattle.lft_scheduler.proofs.Beginning.{none_are_open, no_rows_yet, first_reached}
use Rattle.lft_lists.proofs.Places.{length_same}
use Rattle.lft_scheduler.proofs.agenda.Agenda.new.Goals as goal

pub tell-requires-clause-firings : goal.tell-requires-clause-firings
tell-requires-clause-firings c = subst (λ (p : Parts). AreFirstFirings p (λ h. UpTo (record { time = 0; micro = 0 }) h) c.in_ok-firings.firings) c.program-program.ensures.value c.in_ok-firings.ensures

pub returns : goal.returns
returns c =
    let plan = c.args.plan.now in
    let good = c.program-program.ensures.sound in
    let first : Tag = record { time = 0; micro = 0 } in
    let same : c.program-program.result.now ≡ plan.program = c.program-program.ensures.value in
    let listeners : AreListeners plan.program c.in_ok-listeners.listeners = subst (λ (p : Parts). AreListeners p c.in_ok-listeners.listeners) same c.in_ok-listeners.ensures in
    let arrivals : AreArrivals plan.program c.in_ok-arrivals.arrivals = subst (λ (p : Parts). AreArrivals p c.in_ok-arrivals.arrivals) same c.in_ok-arrivals.ensures in
    let stop : c.stop-stop.result ≡ plan.externals.stop = c.stop-stop.ensures ∙ ap (λ (x : ExternalInputs). x.stop) c.externals.ensures.value in
    let graph : IsGraphOf plan.program c.in_ok-turn.turn.graph = subst (λ (k : GraphParts). IsGraphOf plan.program k) (sym c.in_ok-turn.ensures.graph) c.graph.ensures.graph in
    let idle : c.in_ok-turn.turn.phases ≡ replicate (length plan.program.reactions) Idle = c.in_ok-turn.ensures.idle ∙ ap (λ (n : ℕ). replicate n Idle) c.graph.ensures.graph.as_long in
    let told : IsTold (TriggeredByQueue plan.program c.in_ok-queue.queue plan.externals.stop first) c.in_ok-turn.turn c.tell.new.turn = subst (λ (g : Tag). IsTold (TriggeredByQueue plan.program c.in_ok-queue.queue g first) c.in_ok-turn.turn c.tell.new.turn) stop c.tell.ensures.told in
    let reached = first_reached plan good c.in_ok-queue.queue c.in_ok-turn.turn c.tell.new.turn c.in_ok-queue.ensures graph idle told in
    let current0 = subst (λ (g : Tag). MayAdvance plan [] g → IsReached plan [] first g c.tell.new.turn c.in_ok-queue.queue → IsCurrent plan [] c.advance-from.result g c.advance-from.new.turn c.advance-from.new.queue) stop (c.advance-from.ensures.current []) in
    let current : IsCurrent plan [] c.advance-from.result plan.externals.stop c.advance-from.new.turn c.advance-from.new.queue = current0 (no_rows_yet plan good) reached in
    let recorded : plan.externals.stop.time ≤ 1000000000000000000 = good.fit.stop.0 in
    record {
      runs = subst (λ (rs : List OpenRun). AreOpen plan [] rs) (sym c.new-5.ensures.items) (none_are_open plan);
      stop_is = stop;
      of = record { listeners = listeners; arrivals = arrivals; phases = c.advance-from.ensures.phases ∙ c.tell.ensures.told.count ∙ ap length idle ∙ length_same (length plan.program.reactions) Idle; firings = c.advance-from.ensures.firings; reached = c.advance-from.ensures.time; recorded = subst (λ (g : Tag). g.time ≤ 1000000000000000000) (sym stop) recorded };
      current = subst (λ (g : Tag). IsCurrent plan [] c.advance-from.result g c.advance-from.new.turn c.advance-from.new.queue) (sym stop) current;
    }

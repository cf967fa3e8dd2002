use Rattle.std.proofs.Common.{◌≡◌, ◌++◌, ◌<◌, ◌∙◌, Option, None, length, not, refl, sym, ap, subst, arith, rules}
use Rattle.std.specs.List.{filter}
use Rattle.lft_tag.specs.declared.Tag.{Tag}
use Rattle.lft_model.specs.{Presence.stop as the_stop, Recorded.committed_rows}
use Rattle.lft_scheduler.specs.inner.{Events.HasEvents, OpenRuns.is_run, Agendas.{AgendaParts, IsAgenda, IsOf}}
use Rattle.lft_scheduler.proofs.Ending.{its_end, from_here, ended_reached, may_go_on, stays_current, ended_agenda}
use Rattle.lft_scheduler.proofs.agenda.Agenda.end.Goals as goal

pub advance-self-inside-requires-clause-firings : goal.advance-self-inside-requires-clause-firings
advance-self-inside-requires-clause-firings c =
    let a : AgendaParts = record { runs = c.self.inside.runs.items; queue = c.self.inside.queue; firings = c.self.inside.firings; turn = c.self.inside.turn; from = c.self.inside.from; stop = c.self.inside.stop; listeners = c.self.inside.listeners; arrivals = c.self.inside.arrivals } in
    let of : IsOf c.args.plan.now.program a = subst (λ (x : AgendaParts). IsOf c.args.plan.now.program x) (sym c.self.view_is) c.requires.of in
    of.firings

pub returns-then-is_empty : goal.returns-then-is_empty
returns-then-is_empty c = λ t is may.
    let plan = c.args.plan.now in
    let good = c.keeps.ensures.sound in
    let w = c.args.worker in
    let g = c.args.tag in
    let r = c.args.reaction in
    let steps = c.args.steps.now in
    let a : AgendaParts = record { runs = c.self.inside.runs.items; queue = c.self.inside.queue; firings = c.self.inside.firings; turn = c.self.inside.turn; from = c.self.inside.from; stop = c.self.inside.stop; listeners = c.self.inside.listeners; arrivals = c.self.inside.arrivals } in
    let its : IsAgenda plan t a = subst (λ (x : AgendaParts). IsAgenda plan t x) (sym c.self.view_is) is in
    let of : IsOf plan.program a = subst (λ (x : AgendaParts). IsOf plan.program x) (sym c.self.view_is) c.requires.of in
    let stop = c.stop_with-stop.result in
    let last : stop ≡ the_stop plan (t ++ committed_rows w g r steps) = c.stop_with-stop.ensures.stop plan t w r its.stop_is in
    let fed = c.in_ok-clash.ensures t w r (its_end plan good t w g r steps may a its stop last) (from_here plan good t w g r steps may a its stop last) in
    let left : length c.take_out.new.runs.items ≡ length (filter (λ o. not (is_run w g r o)) a.runs) = ap length c.take_out.ensures in
    let told = c.tell_writes.new.turn in
    let new = c.finish.new.turn in
    let empty : length c.take_out.new.runs.items ≡ 0 = search rules in
    let now : AgendaParts = record { runs = c.take_out.new.runs.items; queue = c.advance-self-inside.new.queue; firings = c.advance-self-inside.new.firings; turn = c.advance-self-inside.new.turn; from = c.advance-self-inside.result; stop = stop; listeners = a.listeners; arrivals = a.arrivals } in
    let its_of : IsOf plan.program now = record { listeners = of.listeners; arrivals = of.arrivals; phases = c.advance-self-inside.ensures.phases ∙ c.finish.ensures.count ∙ c.tell_writes.ensures.count ∙ of.phases; firings = c.advance-self-inside.ensures.firings; reached = c.advance-self-inside.ensures.time; recorded = (let s = c.stop_with-stop.ensures.sooner in let q = of.recorded in omega arith) } in
    ended_agenda plan good t w g r steps may a its stop last c.in_ok-clash.clash c.feed.new.queue now fed c.take_out.ensures refl its_of (λ none so_far.
    let has : HasEvents plan (t ++ committed_rows w g r steps) g stop None c.feed.new.queue = subst (λ (o : Option Tag). HasEvents plan (t ++ committed_rows w g r steps) g stop o c.feed.new.queue) none fed in
    c.advance-self-inside.ensures.current (t ++ committed_rows w g r steps) (may_go_on plan good t w g r steps may a its stop last told new c.tell_writes.ensures c.finish.ensures.graph c.finish.ensures.ends c.feed.new.queue has so_far (sym left ∙ empty)) (ended_reached plan good t w g r steps may a its stop last told new c.tell_writes.ensures c.finish.ensures.graph c.finish.ensures.ends c.feed.new.queue has so_far))

pub returns-else-is_empty : goal.returns-else-is_empty
returns-else-is_empty c = λ t is may.
    let plan = c.args.plan.now in
    let good = c.keeps.ensures.sound in
    let w = c.args.worker in
    let g = c.args.tag in
    let r = c.args.reaction in
    let steps = c.args.steps.now in
    let a : AgendaParts = record { runs = c.self.inside.runs.items; queue = c.self.inside.queue; firings = c.self.inside.firings; turn = c.self.inside.turn; from = c.self.inside.from; stop = c.self.inside.stop; listeners = c.self.inside.listeners; arrivals = c.self.inside.arrivals } in
    let its : IsAgenda plan t a = subst (λ (x : AgendaParts). IsAgenda plan t x) (sym c.self.view_is) is in
    let of : IsOf plan.program a = subst (λ (x : AgendaParts). IsOf plan.program x) (sym c.self.view_is) c.requires.of in
    let stop = c.stop_with-stop.result in
    let last : stop ≡ the_stop plan (t ++ committed_rows w g r steps) = c.stop_with-stop.ensures.stop plan t w r its.stop_is in
    let fed = c.in_ok-clash.ensures t w r (its_end plan good t w g r steps may a its stop last) (from_here plan good t w g r steps may a its stop last) in
    let left : length c.take_out.new.runs.items ≡ length (filter (λ o. not (is_run w g r o)) a.runs) = ap length c.take_out.ensures in
    let told = c.tell_writes.new.turn in
    let new = c.finish.new.turn in
    let some : 0 < length c.take_out.new.runs.items = search rules in
    let now : AgendaParts = record { runs = c.take_out.new.runs.items; queue = c.feed.new.queue; firings = a.firings; turn = new; from = a.from; stop = stop; listeners = a.listeners; arrivals = a.arrivals } in
    let its_of : IsOf plan.program now = record { listeners = of.listeners; arrivals = of.arrivals; phases = c.finish.ensures.count ∙ c.tell_writes.ensures.count ∙ of.phases; firings = of.firings; reached = of.reached; recorded = (let s = c.stop_with-stop.ensures.sooner in let q = of.recorded in omega arith) } in
    ended_agenda plan good t w g r steps may a its stop last c.in_ok-clash.clash c.feed.new.queue now fed c.take_out.ensures refl its_of (λ none so_far.
    let has : HasEvents plan (t ++ committed_rows w g r steps) g stop None c.feed.new.queue = subst (λ (o : Option Tag). HasEvents plan (t ++ committed_rows w g r steps) g stop o c.feed.new.queue) none fed in
    stays_current plan good t w g r steps may a its stop last told new c.tell_writes.ensures c.finish.ensures.graph c.finish.ensures.ends c.feed.new.queue has so_far (omega arith))

use Rattle.std.proofs.Common.{◌≡◌, ◌<◌, None, length, sym, subst, rules}
use Rattle.lft_scheduler.{specs.inner.Agendas.{AgendaParts, IsAgenda}, proofs.Told.{some_run, no_run, finds_ready, finds_blocked, finds_nothing}}
use Rattle.lft_scheduler.proofs.agenda.Agenda.find.Goals as goal

pub returns-in-Some : goal.returns-in-Some
returns-in-Some c = λ plan t may is.
    let a : AgendaParts = record { runs = c.self.inside.runs.items; queue = c.self.inside.queue; firings = c.self.inside.firings; turn = c.self.inside.turn; from = c.self.inside.from; stop = c.self.inside.stop; listeners = c.self.inside.listeners; arrivals = c.self.inside.arrivals } in
    let its : IsAgenda plan t a = subst (λ (x : AgendaParts). IsAgenda plan t x) (sym c.self.view_is) is in
    finds_ready plan t may a its c.in-Some.reaction (c.first.ensures.ready plan.program c.in-Some.reaction its.current.turn_is.graph c.in-Some.is)

pub returns-then-is_empty : goal.returns-then-is_empty
returns-then-is_empty c = λ plan t may is.
    let a : AgendaParts = record { runs = c.self.inside.runs.items; queue = c.self.inside.queue; firings = c.self.inside.firings; turn = c.self.inside.turn; from = c.self.inside.from; stop = c.self.inside.stop; listeners = c.self.inside.listeners; arrivals = c.self.inside.arrivals } in
    let its : IsAgenda plan t a = subst (λ (x : AgendaParts). IsAgenda plan t x) (sym c.self.view_is) is in
    let none : c.first.result ≡ None = search rules in
    let empty : length a.runs ≡ 0 = search rules in
    finds_nothing plan t may a its (c.first.ensures.over plan.program its.current.turn_is.graph none) (no_run plan t a.runs its.runs empty)

pub returns : goal.returns
returns c = λ plan t may is.
    let a : AgendaParts = record { runs = c.self.inside.runs.items; queue = c.self.inside.queue; firings = c.self.inside.firings; turn = c.self.inside.turn; from = c.self.inside.from; stop = c.self.inside.stop; listeners = c.self.inside.listeners; arrivals = c.self.inside.arrivals } in
    let its : IsAgenda plan t a = subst (λ (x : AgendaParts). IsAgenda plan t x) (sym c.self.view_is) is in
    let none : c.first.result ≡ None = search rules in
    let some : 0 < length a.runs = search rules in
    finds_blocked plan t may a its (λ r. c.first.ensures.none plan.program r its.current.turn_is.graph none) (some_run plan t a.runs its.runs some)

use Rattle.std.proofs.Common.{◌≡◌, inl, inr, sym, subst, Option, None, rules}
use Rattle.lft_model.specs.Breaches.{Legal}
use Rattle.lft_scheduler.specs.{declared.found.NextRun.NextRun, inner.Agendas.{IsAgenda, MayFind, Finds}}
use Rattle.lft_scheduler.specs.Starts.{MayStartFirst, NoneMayStart, NothingLeft, SomethingLeft, IsBusy, IsAnyOpen}
use Rattle.lft_scheduler.proofs.Awaiting.{busy_left}
use Rattle.lft_pool.specs.{declared.stop.Stop.Stop, Books.BookParts, inner.Books.AgendaHolds, Causes.{BeginCause, StartCause}}
use Rattle.lft_pool.proofs.Known.{nothing_left_legal}
use Rattle.std.proofs.lemmas.Result.{IfErr-weaker}
use Rattle.lft_pool.proofs.book.Book.begin.Goals as goal

pub returns-then-is_busy-clause-wait : goal.returns-then-is_busy-clause-wait
returns-then-is_busy-clause-wait g c = inl (search rules)

pub start-requires-clause-first : goal.start-requires-clause-first
start-requires-clause-first g c =
    let plan = c.self.inside.plan in
    let t = c.self.inside.rows in
    let none : c.self.inside.reason ≡ None = search rules in
    let agenda : IsAgenda plan t c.self.inside.agenda = subst (λ (o : Option Stop). AgendaHolds o plan t c.self.inside.agenda) none c.self.invariant.2 in
    let may : MayFind plan t = record { sound = c.keeps.ensures.sound; so_far = c.self.invariant.0.so_far; quiet = c.self.invariant.0.quiet } in
    let f : MayStartFirst plan t c.in-Ready.tag c.in-Ready.reaction = subst (λ (o : NextRun). Finds plan t o) c.in-Ready.is (c.find.ensures plan t may agenda) in
    subst (λ (b : BookParts). MayStartFirst b.plan b.rows c.in-Ready.tag c.in-Ready.reaction) c.self.view_is f

pub returns-in-Nothing-clause-legal : goal.returns-in-Nothing-clause-legal
returns-in-Nothing-clause-legal g c =
    let plan = c.self.inside.plan in
    let t = c.self.inside.rows in
    let none : c.self.inside.reason ≡ None = search rules in
    let agenda : IsAgenda plan t c.self.inside.agenda = subst (λ (o : Option Stop). AgendaHolds o plan t c.self.inside.agenda) none c.self.invariant.2 in
    let may : MayFind plan t = record { sound = c.keeps.ensures.sound; so_far = c.self.invariant.0.so_far; quiet = c.self.invariant.0.quiet } in
    let n : NothingLeft plan t = subst (λ (o : NextRun). Finds plan t o) c.in-Nothing.is (c.find.ensures plan t may agenda) in
    subst (λ (b : BookParts). Legal b.plan b.rows) c.self.view_is (nothing_left_legal plan c.keeps.ensures.sound t c.self.invariant.0.so_far n)

pub returns-in-Nothing-clause-ok : goal.returns-in-Nothing-clause-ok
returns-in-Nothing-clause-ok g c =
    let plan = c.self.inside.plan in
    let t = c.self.inside.rows in
    let none : c.self.inside.reason ≡ None = search rules in
    let agenda : IsAgenda plan t c.self.inside.agenda = subst (λ (o : Option Stop). AgendaHolds o plan t c.self.inside.agenda) none c.self.invariant.2 in
    let may : MayFind plan t = record { sound = c.keeps.ensures.sound; so_far = c.self.invariant.0.so_far; quiet = c.self.invariant.0.quiet } in
    let n : NothingLeft plan t = subst (λ (o : NextRun). Finds plan t o) c.in-Nothing.is (c.find.ensures plan t may agenda) in
    (search rules, subst (λ (b : BookParts). NothingLeft b.plan b.rows) c.self.view_is n)

pub returns-then-is_busy-clause-left : goal.returns-then-is_busy-clause-left
returns-then-is_busy-clause-left g c =
    let b : IsBusy c.args.self.now.rows c.args.worker = search rules in
    let i : IsBusy c.self.inside.rows c.args.worker = subst (λ (x : BookParts). IsBusy x.rows c.args.worker) (sym c.self.view_is) b in
    subst (λ (x : BookParts). SomethingLeft x.plan x.rows) c.self.view_is (busy_left c.self.inside.plan c.keeps.ensures.sound c.self.inside.rows c.self.invariant.0.so_far c.args.worker i)

pub returns-in-Ready-clause-cause : goal.returns-in-Ready-clause-cause
returns-in-Ready-clause-cause g c =
    let plan = c.self.inside.plan in
    let t = c.self.inside.rows in
    let none : c.self.inside.reason ≡ None = search rules in
    let agenda : IsAgenda plan t c.self.inside.agenda = subst (λ (o : Option Stop). AgendaHolds o plan t c.self.inside.agenda) none c.self.invariant.2 in
    let may : MayFind plan t = record { sound = c.keeps.ensures.sound; so_far = c.self.invariant.0.so_far; quiet = c.self.invariant.0.quiet } in
    let f : MayStartFirst plan t c.in-Ready.tag c.in-Ready.reaction = subst (λ (o : NextRun). Finds plan t o) c.in-Ready.is (c.find.ensures plan t may agenda) in
    let first : MayStartFirst c.args.self.now.plan c.args.self.now.rows c.in-Ready.tag c.in-Ready.reaction = subst (λ (b : BookParts). MayStartFirst b.plan b.rows c.in-Ready.tag c.in-Ready.reaction) c.self.view_is f in
    let idle : ¬ IsBusy c.args.self.now.rows c.args.worker = search rules in
    IfErr-weaker c.start.result (λ s. StartCause c.args.self.now c.args.worker c.in-Ready.tag c.in-Ready.reaction s) (λ s. c.args.self.now.reason ≡ None → BeginCause c.args.self.now c.args.worker s) (λ s h going. inr (idle, (c.in-Ready.tag, c.in-Ready.reaction, first, h))) c.start.ensures.cause

pub returns-in-Blocked-clause-wait : goal.returns-in-Blocked-clause-wait
returns-in-Blocked-clause-wait g c =
    let plan = c.self.inside.plan in
    let t = c.self.inside.rows in
    let none : c.self.inside.reason ≡ None = search rules in
    let agenda : IsAgenda plan t c.self.inside.agenda = subst (λ (o : Option Stop). AgendaHolds o plan t c.self.inside.agenda) none c.self.invariant.2 in
    let may : MayFind plan t = record { sound = c.keeps.ensures.sound; so_far = c.self.invariant.0.so_far; quiet = c.self.invariant.0.quiet } in
    let f : NoneMayStart plan t × IsAnyOpen t = subst (λ (o : NextRun). Finds plan t o) c.in-Blocked.is (c.find.ensures plan t may agenda) in
    inr (subst (λ (b : BookParts). IsAnyOpen b.rows × NoneMayStart b.plan b.rows) c.self.view_is (f.1, f.0))

pub returns-in-Blocked-clause-left : goal.returns-in-Blocked-clause-left
returns-in-Blocked-clause-left g c =
    let plan = c.self.inside.plan in
    let t = c.self.inside.rows in
    let none : c.self.inside.reason ≡ None = search rules in
    let agenda : IsAgenda plan t c.self.inside.agenda = subst (λ (o : Option Stop). AgendaHolds o plan t c.self.inside.agenda) none c.self.invariant.2 in
    let may : MayFind plan t = record { sound = c.keeps.ensures.sound; so_far = c.self.invariant.0.so_far; quiet = c.self.invariant.0.quiet } in
    let f : NoneMayStart plan t × IsAnyOpen t = subst (λ (o : NextRun). Finds plan t o) c.in-Blocked.is (c.find.ensures plan t may agenda) in
    subst (λ (x : BookParts). SomethingLeft x.plan x.rows) c.self.view_is (busy_left plan c.keeps.ensures.sound t c.self.invariant.0.so_far f.1.0 f.1.1)

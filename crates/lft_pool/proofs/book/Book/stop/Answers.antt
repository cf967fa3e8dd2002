use Rattle.std.proofs.Common.{◌≡◌, ◌∙◌, None, sym, ap, subst}
use Rattle.lft_pool.{specs.{Books.BookParts, Reasons.StopHolds}, proofs.Refusals.before_it}
use Rattle.lft_pool.proofs.book.Book.stop.Goals as goal

pub invariant_of-self : goal.invariant_of-self
invariant_of-self g c =
    let inside = c.self.inside in
    let old : BookParts = record { plan = inside.plan; rows = inside.rows; states = inside.states; left = inside.bodies; max_runs = inside.max_runs; reason = inside.reason } in
    let none : inside.reason ≡ None = ap (λ (b : BookParts). b.reason) c.self.view_is ∙ c.requires.going in
    let holds : StopHolds g.L.Law.holds old c.args.reason = subst (λ (b : BookParts). StopHolds g.L.Law.holds b c.args.reason) (sym c.self.view_is) c.requires.holds in
    (c.self.invariant.0, c.self.invariant.1, tt, before_it g.L.Law.holds old c.args.reason none holds)

use Rattle.std.proofs.Common.{◌≡◌, subst, refl, true, false}
use Rattle.lft_counts.{specs.Orders.IsLast, proofs.Meeting.{met_apart, met_beside, met_elsewhere, met_never}}
use Rattle.lft_counts.proofs.orders.Order.met.Goals as goal

pub returns-then-start-worker-clause-counted : goal.returns-then-start-worker-clause-counted
returns-then-start-worker-clause-counted c t i ruled here is so =
    let x = met_apart t ruled i c.args.worker c.args.tag c.args.self.then c.args.self.first here c.args.self.both c.args.self.apart so.both so.apart c.in-Some.start (subst (IsLast t i c.args.self.first) c.in-Some.is is) (c.if-is_same.ensures.0 refl) c.if-start-worker.true in
    record { both = x.0; apart = x.1 }

pub returns-else-start-worker-clause-counted : goal.returns-else-start-worker-clause-counted
returns-else-start-worker-clause-counted c t i ruled here is so =
    let x = met_beside t ruled i c.args.worker c.args.tag c.args.self.then c.args.self.first here c.args.self.both c.args.self.apart so.both so.apart c.in-Some.start (subst (IsLast t i c.args.self.first) c.in-Some.is is) (c.if-is_same.ensures.0 refl) c.if-start-worker.false in
    record { both = x.0; apart = x.1 }

pub returns-else-is_same-clause-counted : goal.returns-else-is_same-clause-counted
returns-else-is_same-clause-counted c t i ruled here is so =
    let x = met_elsewhere t ruled i c.args.worker c.args.tag c.args.self.then c.args.self.first here c.args.self.both c.args.self.apart so.both so.apart c.in-Some.start (subst (IsLast t i c.args.self.first) c.in-Some.is is) (λ e. let z : ◌≡◌ false true = c.if-is_same.ensures.1 e in absurd (cc)) in
    record { both = x.0; apart = x.1 }

pub returns-in_default-clause-counted : goal.returns-in_default-clause-counted
returns-in_default-clause-counted c t i ruled here is so =
    let x = met_never t ruled i c.args.worker c.args.tag c.args.self.then c.args.self.first here c.args.self.both c.args.self.apart so.both so.apart (subst (IsLast t i c.args.self.first) c.in_default.is is) in
    record { both = x.0; apart = x.1 }

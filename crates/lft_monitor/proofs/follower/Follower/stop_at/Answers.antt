use Rattle.std.proofs.Common.{◌≡◌, refl, rules}
use Rattle.lft_monitor.{specs.inner.Follows.stopped_at, proofs.{Passed.{is_passed, not_passed}, Sooner.follower_stopped}}
use Rattle.lft_monitor.proofs.follower.Follower.stop_at.Goals as goal

pub returns-then-is_past-clause-late : goal.returns-then-is_past-clause-late
returns-then-is_past-clause-late c = λ t is. ((λ e. let x = c.if-is_past.ensures.past refl in is_passed c.args.plan.now t c.args.self.now c.args.stop is x.0 x.1 x.2), λ p. refl)

pub returns-clause-late : goal.returns-clause-late
returns-clause-late c = λ t is. ((λ e. absurd (cc)), λ p. absurd (not_passed c.args.plan.now t c.args.self.now c.args.stop is (c.if-is_past.ensures.not refl) p))

pub returns-clause-stands : goal.returns-clause-stands
returns-clause-stands c =
    let sooner : c.stop_at.new.self ≡ stopped_at c.args.plan.now c.args.stop = search rules in
    follower_stopped c.args.plan.now c.stop_at.new.self c.args.stop c.args.self.now c.stop_at-2.new.self c.stop_at-3.new.self sooner c.stop_at-2.ensures c.stop_at-3.ensures (c.if-is_past.ensures.not refl)

use Rattle.std.proofs.Common.{refl, subst}
use Rattle.lft_model.specs.Plans.{PlanParts}
use Rattle.lft_monitor.{specs.inner.Follows.IsFollowerOf, proofs.{Passed.{is_passed, not_passed}, Gaining.{follower_told, same_parts}}}
use Rattle.lft_monitor.proofs.follower.Follower.add_event.Goals as goal

pub returns-then-is_past-clause-late : goal.returns-then-is_past-clause-late
returns-then-is_past-clause-late c = λ t is. ((λ e. let x = c.if-is_past.ensures.past refl in is_passed c.args.plan.now t c.args.self.now c.args.event.tag is x.0 x.1 x.2), λ p. refl)

pub returns-then-events-ge-MAX_ROWS-clause-late : goal.returns-then-events-ge-MAX_ROWS-clause-late
returns-then-events-ge-MAX_ROWS-clause-late c = λ t is. ((λ e. absurd (cc)), λ p. absurd (not_passed c.args.plan.now t c.args.self.now c.args.event.tag is (c.if-is_past.ensures.not refl) p))

pub returns-then-has_many_later-clause-late : goal.returns-then-has_many_later-clause-late
returns-then-has_many_later-clause-late c = λ t is. ((λ e. absurd (cc)), λ p. absurd (not_passed c.args.plan.now t c.args.self.now c.args.event.tag is (c.if-is_past.ensures.not refl) p))

pub returns-in_err-tell-clause-stands : goal.returns-in_err-tell-clause-stands
returns-in_err-tell-clause-stands c = λ t is. subst (λ (plan : PlanParts). IsFollowerOf plan t c.args.self.now) (same_parts c.args.plan.now c.tell.new.self c.args.plan.now.externals.events c.tell.ensures.program c.tell.ensures.stop c.in_err-tell.ensures.err) is

pub returns-in-Some-clause-late : goal.returns-in-Some-clause-late
returns-in-Some-clause-late c = λ t is. ((λ e. absurd (cc)), λ p. absurd (not_passed c.args.plan.now t c.args.self.now c.args.event.tag is (c.if-is_past.ensures.not refl) p))

pub returns-in-Some-clause-stands : goal.returns-in-Some-clause-stands
returns-in-Some-clause-stands c = follower_told c.args.plan.now c.tell.new.self c.args.event c.in-Some.field-0 c.tell.ensures.program c.tell.ensures.stop (rw c.in-Some.is at c.in_ok-tell.ensures.some) c.keeps.ensures.sound.in_order c.args.self.now (c.if-is_past.ensures.not refl)

pub returns-in-None-clause-late : goal.returns-in-None-clause-late
returns-in-None-clause-late c = λ t is. ((λ e. absurd (cc)), λ p. absurd (not_passed c.args.plan.now t c.args.self.now c.args.event.tag is (c.if-is_past.ensures.not refl) p))

pub returns-in-None-clause-stands : goal.returns-in-None-clause-stands
returns-in-None-clause-stands c =
    let none = rw c.in-None.is at c.in_ok-tell.ensures.none in
    λ t is. subst (λ (plan : PlanParts). IsFollowerOf plan t c.args.self.now) (same_parts c.args.plan.now c.tell.new.self c.args.plan.now.externals.events c.tell.ensures.program c.tell.ensures.stop none.1) is

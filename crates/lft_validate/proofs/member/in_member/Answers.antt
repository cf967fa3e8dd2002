use Rattle.lft_tree.specs.View.{reactor_view}
use Rattle.lft_validate.proofs.{Turns.weaker, Causes.no_other}
use Rattle.lft_validate.proofs.member.in_member.Goals as goal

pub returns-in-DuplicateName-clause-some : goal.returns-in-DuplicateName-clause-some
returns-in-DuplicateName-clause-some c = weaker _ _ c.given_twice.result (λ found all rs file own. all rs (reactor_view c.args.reactor.now)) c.given_twice.ensures.some

pub returns-in-DuplicateName-clause-none : goal.returns-in-DuplicateName-clause-none
returns-in-DuplicateName-clause-none c = rw c.in-DuplicateName.is (weaker _ _ c.given_twice.result (λ found none rs file own. none) c.given_twice.ensures.none)

pub returns-in-UnknownReactor-clause-some : goal.returns-in-UnknownReactor-clause-some
returns-in-UnknownReactor-clause-some c rs file own = c.unknown_reactor.ensures.some rs (reactor_view c.args.reactor.now) file

pub returns-in-UnknownReactor-clause-none : goal.returns-in-UnknownReactor-clause-none
returns-in-UnknownReactor-clause-none c rs file own = rw c.in-UnknownReactor.is (c.unknown_reactor.ensures.none rs (reactor_view c.args.reactor.now) file)

pub returns-in-UnknownName-clause-none : goal.returns-in-UnknownName-clause-none
returns-in-UnknownName-clause-none c = rw c.in-UnknownName.is (weaker _ _ c.unknown.result (λ found none rs file own. none rs (reactor_view c.args.reactor.now) file own) c.unknown.ensures.none)

pub returns-in-WrongPlace-clause-none : goal.returns-in-WrongPlace-clause-none
returns-in-WrongPlace-clause-none c = rw c.in-WrongPlace.is (weaker _ _ c.misplaced.result (λ found none rs file own. none rs (reactor_view c.args.reactor.now) file own) c.misplaced.ensures.none)

pub returns-in-MainHasPorts-clause-some : goal.returns-in-MainHasPorts-clause-some
returns-in-MainHasPorts-clause-some c rs file own = c.main_port.ensures.some rs

pub returns-in-MainHasPorts-clause-none : goal.returns-in-MainHasPorts-clause-none
returns-in-MainHasPorts-clause-none c rs file own = rw c.in-MainHasPorts.is (c.main_port.ensures.none rs)

pub returns-in-WidthMismatch-clause-some : goal.returns-in-WidthMismatch-clause-some
returns-in-WidthMismatch-clause-some c rs file own = c.width.ensures.some rs (reactor_view c.args.reactor.now)

pub returns-in-WidthMismatch-clause-none : goal.returns-in-WidthMismatch-clause-none
returns-in-WidthMismatch-clause-none c rs file own = rw c.in-WidthMismatch.is (c.width.ensures.none rs (reactor_view c.args.reactor.now))

pub returns-in-NoTrigger-clause-some : goal.returns-in-NoTrigger-clause-some
returns-in-NoTrigger-clause-some c rs file own = c.no_trigger.ensures.some rs (reactor_view c.args.reactor.now)

pub returns-in-NoTrigger-clause-none : goal.returns-in-NoTrigger-clause-none
returns-in-NoTrigger-clause-none c rs file own = rw c.in-NoTrigger.is (c.no_trigger.ensures.none rs (reactor_view c.args.reactor.now))

pub returns-in-DuplicateInput-clause-some : goal.returns-in-DuplicateInput-clause-some
returns-in-DuplicateInput-clause-some c = weaker _ _ c.named_twice.result (λ found all rs file own. all rs (reactor_view c.args.reactor.now)) c.named_twice.ensures.some

pub returns-in-DuplicateInput-clause-none : goal.returns-in-DuplicateInput-clause-none
returns-in-DuplicateInput-clause-none c = rw c.in-DuplicateInput.is (weaker _ _ c.named_twice.result (λ found none rs file own. none) c.named_twice.ensures.none)

pub returns-in-DelayTooLong-clause-some : goal.returns-in-DelayTooLong-clause-some
returns-in-DelayTooLong-clause-some c = weaker _ _ c.long_time.result (λ found all rs file own. all rs (reactor_view c.args.reactor.now)) c.long_time.ensures.some

pub returns-in-DelayTooLong-clause-none : goal.returns-in-DelayTooLong-clause-none
returns-in-DelayTooLong-clause-none c = rw c.in-DelayTooLong.is (weaker _ _ c.long_time.result (λ found none rs file own. none) c.long_time.ensures.none)

pub returns-in_default-clause-none : goal.returns-in_default-clause-none
returns-in_default-clause-none c rs file own = no_other rs (reactor_view c.args.reactor.now) c.args.member.now c.args.cause c.in_default.not-DuplicateName c.in_default.not-UnknownReactor c.in_default.not-UnknownName c.in_default.not-WrongPlace c.in_default.not-MainHasPorts c.in_default.not-WidthMismatch c.in_default.not-NoTrigger c.in_default.not-DuplicateInput c.in_default.not-DelayTooLong

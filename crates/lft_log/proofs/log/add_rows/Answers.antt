use Rattle.std.proofs.Common.{inl, inr, refl}
use Rattle.lft_monitor.{specs.inner.Follows.next_of, proofs.Following.odd_so_far}
use Rattle.lft_log.proofs.log.add_rows.Goals as goal

pub returns-in-Ok-GoesOn-clause-told : goal.returns-in-Ok-GoesOn-clause-told
returns-in-Ok-GoesOn-clause-told c = λ t is. rw c.in-Ok-GoesOn.field-0-is at (c.in-Ok-GoesOn.ensures t is)

pub returns-in-Ok-Broken-clause-told : goal.returns-in-Ok-Broken-clause-told
returns-in-Ok-Broken-clause-told c = λ t is until more. inl (rw c.in-Ok-Broken.field-0-is at (c.in-Ok-Broken.ensures t is))

pub returns-in-Ok-Odd-clause-told : goal.returns-in-Ok-Odd-clause-told
returns-in-Ok-Odd-clause-told c = λ t is until more. odd_so_far c.args.plan.now t (next_of c.args.follower.now) c.in-Ok-Odd.reach c.in-Ok-Odd.line (rw c.in-Ok-Odd.field-0-is at (c.in-Ok-Odd.ensures t is))

pub returns-in-Ok-TooMany-clause-fault : goal.returns-in-Ok-TooMany-clause-fault
returns-in-Ok-TooMany-clause-fault c = λ t is. inl (refl, rw c.in-Ok-TooMany.field-0-is at (c.in-Ok-TooMany.ensures t is))

pub returns-in-Err-clause-fault : goal.returns-in-Err-clause-fault
returns-in-Err-clause-fault c = λ t is. inr refl

use Rattle.std.proofs.Common.{◌<◌, ◌/◌, ◌++◌, ℕ, Err, Option, inl, sym, subst}
use Rattle.std.{specs.Io.KnownBytes.Appends, proofs.KnownBytes.Appends-nil}
use Rattle.lft_log.specs.{declared.told.Told.Told, Follow.Reaches.{OfReaches, WritesOrFails}}
use Rattle.lft_log.proofs.FollowLemmas.Reaching.{none_told, none_written, one_told, reach_of, some_more, told_cut}
use Rattle.lft_log.proofs.follow.follow.add.Goals.{in-Ok, in-Err-tell_reach}
use Rattle.lft_log.proofs.follow.follow.add.Goals as goal

pub returns-in-Ok-Some-clause-told : goal.returns-in-Ok-Some-clause-told
returns-in-Ok-Some-clause-told g c = λ base until bytes is. rw c.in-Ok-Some.field-0-is at (c.in-Ok-Some.ensures.told base until bytes is)

pub returns-in-Ok-Some-clause-every : goal.returns-in-Ok-Some-clause-every
returns-in-Ok-Some-clause-every g c = λ base until bytes is. let e = g.E.Write.contents c.args.errors.now in none_told base (bytes ++ c.args.piece.now) c.args.every (Appends e e) (Appends-nil e)

pub returns-in-Err-clause-fault : goal.returns-in-Err-clause-fault
returns-in-Err-clause-fault g c = λ base until bytes is. inl (c.in-Err.fault, c.in-Err.ensures.fault base until bytes is, c.fault_of.ensures)

pub returns-in-Err-clause-every : goal.returns-in-Err-clause-every
returns-in-Err-clause-every g c = λ base until bytes is. none_written {X = Option Told} (Err c.fault_of.result) base (bytes ++ c.args.piece.now) c.args.every (g.E.Write.contents c.args.errors.now)

pub returns-then-rows-every-clause-every : goal.returns-then-rows-every-clause-every
returns-then-rows-every-clause-every g c = λ base until bytes is.
    let more = bytes ++ c.args.piece.now in
    let every = c.args.every in
    let old = g.E.Write.contents c.args.errors.now in
    let new = g.E.Write.contents c.tell_reach.new.errors in
    let log = rw c.in-Ok-None.field-0-is at (c.in-Ok-None.ensures.told base until bytes is) in
    let some : 0 < c.add.new.self.rows / every = subst (λ (n : ℕ). 0 < n / every) c.rows.ensures (some_more (c.rows-before.result / every) (c.rows.result / every) c.if-rows-every.true) in
    let reach = reach_of base c.add.new.plan until more every c.add.new.self c.reach.result log c.reach.ensures c.if-every-gt0.true some in
    elim c.match-tell_reach.branch [
      | in-Ok w ↦ subst (λ r. OfReaches base more every (WritesOrFails r old new)) (sym w.result-is) (one_told base more every c.reach.result (Appends old new) reach w.in-Ok.ensures.written)
      | in-Err-tell_reach w ↦ subst (λ r. OfReaches base more every (WritesOrFails r old new)) (sym w.result-is) (told_cut (Option Told) base more every c.reach.result old new w.in-Err-tell_reach.fault reach w.in-Err-tell_reach.ensures.refused)
    ]

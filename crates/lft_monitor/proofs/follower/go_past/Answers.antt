use Rattle.std.proofs.Common.{◌++◌, length, slice_range, arith}
use Rattle.lft_monitor.proofs.{Front.keeps_first, Passing.is_pass, Following.{gone_all, halts_within, judged_none, judged_on, rises_at_hand, turn_to}}
use Rattle.lft_monitor.proofs.follower.go_past.Goals as goal

pub go_over-requires-clause-stands : goal.go_over-requires-clause-stands
go_over-requires-clause-stands c = (c.requires.stands.0, c.requires.stands.2, c.requires.stands.1.judged.past.stop_is)

pub tell-requires : goal.tell-requires
tell-requires c =
    let done = c.requires.stands.0 in
    let held = c.requires.stands.1 in
    let halt = (rw c.in-Some.is at c.in_ok-halt.ensures) done held.judged.past.stop_is c.requires.stands.2 in
    record { few = c.requires.few; fit = c.requires.fit; place = halts_within c.args.plan.now done c.args.rows.now c.in-Some.halt halt; halt = (done, held, halt) }

pub returns-in-Some-clause-hitch : goal.returns-in-Some-clause-hitch
returns-in-Some-clause-hitch c = λ done held going. c.in_ok-hitch.ensures done held ((rw c.in-Some.is at c.in_ok-halt.ensures) done held.judged.past.stop_is going)

pub begin_of_last-begin-requires : goal.begin_of_last-begin-requires
begin_of_last-begin-requires c =
    let gone = (rw c.in_default.is at c.in_ok-halt.ensures) c.requires.stands.0 c.requires.stands.1.judged.past.stop_is c.requires.stands.2 in
    rises_at_hand c.args.plan.now c.requires.stands.0 c.args.rows.now c.go_over.new.self gone.0 gone.1

pub returns-then-begin-eq0-clause-judged : goal.returns-then-begin-eq0-clause-judged
returns-then-begin-eq0-clause-judged c = λ done held going.
    let gone = (rw c.in_default.is at c.in_ok-halt.ensures) done held.judged.past.stop_is going in
    judged_none c.args.plan.now done c.args.rows.now c.args.judged.now held c.go_over.new.self gone.0 gone.1 (rw c.if-begin-eq0.true at c.begin_of_last-begin.ensures)

pub judge_before-requires : goal.judge_before-requires
judge_before-requires c =
    let plan = c.args.plan.now in
    let rows = c.args.rows.now in
    let done = c.requires.stands.0 in
    let held = c.requires.stands.1 in
    let gone = (rw c.in_default.is at c.in_ok-halt.ensures) done held.judged.past.stop_is c.requires.stands.2 in
    let begins = c.begin_of_last-begin.ensures in
    record {
      few = c.requires.few;
      fit = c.requires.fit;
      begin = begins.some (let more = c.if-begin-eq0.false in let up = begins.last.up in omega (arith, more, up));
      kept = keeps_first plan done rows (length rows) (gone_all plan done rows c.go_over.new.self gone.0 gone.1) c.begin_of_last-begin.result begins;
      stands = (done, held.judged);
    }

pub returns-in-Some-2-clause-hitch : goal.returns-in-Some-2-clause-hitch
returns-in-Some-2-clause-hitch c = λ done held going.
    let plan = c.args.plan.now in
    let rows = c.args.rows.now in
    let gone = (rw c.in_default.is at c.in_ok-halt.ensures) done held.judged.past.stop_is going in
    (rw c.in-Some-2.is at c.in_ok-hitch-2.ensures) done held.judged (length rows) (turn_to plan done rows c.args.judged.now held (length rows) c.begin_of_last-begin.result (gone_all plan done rows c.go_over.new.self gone.0 gone.1) c.begin_of_last-begin.ensures)

pub begin-requires : goal.begin-requires
begin-requires c =
    let gone = (rw c.in_default.is at c.in_ok-halt.ensures) c.requires.stands.0 c.requires.stands.1.judged.past.stop_is c.requires.stands.2 in
    is_pass c.args.plan.now c.requires.stands.0 c.args.rows.now c.go_over.new.self gone.0

pub returns-clause-judged : goal.returns-clause-judged
returns-clause-judged c = λ done held going.
    let plan = c.args.plan.now in
    let rows = c.args.rows.now in
    let begin = c.begin_of_last-begin.result in
    let gone = (rw c.in_default.is at c.in_ok-halt.ensures) done held.judged.past.stop_is going in
    let judged = (rw c.in_default-2.is at c.in_ok-hitch-2.ensures) done held.judged in
    judged_on plan done rows c.args.judged.now held c.go_over.new.self gone.0 gone.1 begin (let n = c.if-begin-eq0.false in omega arith) c.begin_of_last-begin.ensures c.judge_before.new.judged judged c.begin.new.self (λ u. c.in_ok-begin.ensures (done ++ slice_range rows 0 begin) u judged.past.stop_is)

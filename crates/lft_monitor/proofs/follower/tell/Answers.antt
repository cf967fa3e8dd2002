use Rattle.std.proofs.Common.{arith}
use Rattle.lft_monitor.{specs.Follows.breach_of, proofs.{Following.{begins_within, gone_at, told_sure, turn_to}, Front.keeps_first}}
use Rattle.lft_monitor.proofs.follower.tell.Goals as goal

pub found_at-found-requires-clause-few : goal.found_at-found-requires-clause-few
found_at-found-requires-clause-few c = c.requires.halt.1.judged.few

pub judge_before-requires : goal.judge_before-requires
judge_before-requires c =
    let plan = c.args.plan.now in
    let rows = c.args.rows.now in
    let done = c.requires.halt.0 in
    let begin = c.last_begins-begin.result in
    let begins = c.last_begins-begin.ensures in
    record {
      few = c.requires.few;
      fit = c.requires.fit;
      begin = begins_within rows c.args.halt.end begin begins (let e = c.requires.place.1 in omega arith) (let p = c.requires.place.0 in omega arith);
      kept = keeps_first plan done rows c.args.halt.end (gone_at plan done rows c.args.halt c.requires.halt.2) begin begins;
      stands = (done, c.requires.halt.1.judged);
    }

pub returns-in-Some : goal.returns-in-Some
returns-in-Some c = λ done held halt.
    let plan = c.args.plan.now in
    let rows = c.args.rows.now in
    let turn = turn_to plan done rows c.args.judged.now held c.args.halt.end c.last_begins-begin.result (gone_at plan done rows c.args.halt halt) c.last_begins-begin.ensures in
    (rw c.in-Some.is at c.in_ok-hitch.ensures) done held.judged c.args.halt.end turn

pub returns-in-None : goal.returns-in-None
returns-in-None c = λ done held halt.
    let judged = (rw c.in-None.is at c.in_ok-hitch.ensures) done held.judged in
    let found = c.found_at-found.result in
    told_sure c.args.plan.now done c.args.rows.now c.args.judged.now held c.args.halt halt c.last_begins-begin.result c.last_begins-begin.ensures c.judge_before.new.judged judged (breach_of found) c.found_at-found.ensures.rule c.found_at-found.ensures.line (λ x e. (c.found_at-found.ensures.tag x e, c.found_at-found.ensures.reaction x e))

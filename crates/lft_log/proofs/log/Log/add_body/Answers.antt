use Rattle.std.proofs.Common.{◌≤◌, ◌++◌, ◌∙◌, [], inr, List, Option, length, refl, sym, subst, arith}
use Rattle.lft_tag.specs.declared.Tag.{Tag}
use Rattle.lft_ir.specs.{Parts.Parts, declared.steps.row.Row.Row}
use Rattle.lft_log.specs.{inner.Logs.IsFront, Logs.rows, Told.{IsSaid, KeepTo}}
use Rattle.lft_log.proofs.{InPlace.{cut_behind, cut_fit, next_cut, next_read, read_behind}, Keeping.{fault_on, lines_on, rows_fault_on, soon_on}}
use Rattle.lft_log.proofs.log.Log.add_body.Goals as goal

pub tell_all-taken-requires : goal.tell_all-taken-requires
tell_all-taken-requires c =
    let is = c.requires.stands.3 in
    let log = c.args.self.now in
    let lines = c.args.lines.now in
    let front = c.in-Ok.front in
    let v = c.read_front.new.rows in
    let read = c.in-Ok.ensures.0 in
    let rows_are = c.in-Ok.ensures.1 in
    let given = subst (λ (p : Parts). IsFront p lines log.rows log.inputs read front) c.program.ensures.value c.in-Ok.ensures.2 in
    let old = c.args.plan.now in
    let t = rows is.0.lines in
    record {
      few = c.if-self-gt-MOST-2.false;
      lines = (given.lines, next_read old t read log.follower v rows_are is.0.follower ∙ given.rows_are, given.inputs_are);
      fit = given.inputs_fit;
      stands = (t, read_behind old t read log.follower v rows_are is.0.follower);
    }

pub cut-requires : goal.cut-requires
cut-requires c =
    let is = c.requires.stands.3 in
    let t = rows is.0.lines in
    let told = c.tell_all-taken.ensures in
    record {
      within = (told.stands t (read_behind c.args.plan.now t c.in-Ok.ensures.0 c.args.self.now.follower c.read_front.new.rows c.in-Ok.ensures.1 is.0.follower)).within;
      count = subst (λ (u : List Row). c.tell_all-taken.result.rows ≤ length u) (sym told.next) told.within.0;
    }

pub add_asked-requires : goal.add_asked-requires
add_asked-requires c =
    let is = c.requires.stands.3 in
    let log = c.args.self.now in
    let lines = c.args.lines.now in
    let front = c.in-Ok.front in
    let v = c.read_front.new.rows in
    let read = c.in-Ok.ensures.0 in
    let rows_are = c.in-Ok.ensures.1 in
    let given = subst (λ (p : Parts). IsFront p lines log.rows log.inputs read front) c.program.ensures.value c.in-Ok.ensures.2 in
    let old = c.args.plan.now in
    let t = rows is.0.lines in
    let plan = c.tell_all-taken.new.plan in
    let taken = c.tell_all-taken.result in
    let told = c.tell_all-taken.ensures in
    record {
      fit = cut_fit old t read log.follower v rows_are is.0.follower plan taken.rows c.tell_all-taken.new.follower c.cut.new.self told.stands told.next c.cut.ensures.next c.cut.ensures.stands told.program given.rows_fit.each;
      stands = (t, cut_behind old t read log.follower v rows_are is.0.follower plan taken.rows c.tell_all-taken.new.follower c.cut.new.self told.stands told.next c.cut.ensures.next c.cut.ensures.stands);
    }

pub returns-in-Some-clause-fault : goal.returns-in-Some-clause-fault
returns-in-Some-clause-fault c = λ base until bytes is.
    let log = c.args.self.now in
    let lines = c.args.lines.now in
    let front = c.in-Ok.front in
    let v = c.read_front.new.rows in
    let read = c.in-Ok.ensures.0 in
    let rows_are = c.in-Ok.ensures.1 in
    let given = subst (λ (p : Parts). IsFront p lines log.rows log.inputs read front) c.program.ensures.value c.in-Ok.ensures.2 in
    fault_on base c.args.plan.now c.tell_all-taken.new.plan until bytes lines log v read front c.tell_all-taken.result is rows_are given c.tell_all-taken.ensures.taken c.in-Some.fault c.in-Some.is

pub returns-clause-fault : goal.returns-clause-fault
returns-clause-fault c = λ base until bytes is.
    let log = c.args.self.now in
    let lines = c.args.lines.now in
    let front = c.in-Ok.front in
    let v = c.read_front.new.rows in
    let read = c.in-Ok.ensures.0 in
    let rows_are = c.in-Ok.ensures.1 in
    let given = subst (λ (p : Parts). IsFront p lines log.rows log.inputs read front) c.program.ensures.value c.in-Ok.ensures.2 in
    let old = c.args.plan.now in
    let t = rows is.0.lines in
    let plan = c.tell_all-taken.new.plan in
    let taken = c.tell_all-taken.result in
    let told = c.tell_all-taken.ensures in
    let follows = cut_behind old t read log.follower v rows_are is.0.follower plan taken.rows c.tell_all-taken.new.follower c.cut.new.self told.stands told.next c.cut.ensures.next c.cut.ensures.stands in
    let left = next_cut old t read log.follower v rows_are is.0.follower plan taken.rows c.tell_all-taken.new.follower c.cut.new.self told.stands told.next c.cut.ensures.next c.cut.ensures.stands in
    rows_fault_on base old plan until bytes lines log v read front taken is rows_are given told.taken c.cut.new.self left c.in-Err.fault (c.in-Err.ensures.fault t follows)

pub returns-then-self-gt-MOST-clause-fault : goal.returns-then-self-gt-MOST-clause-fault
returns-then-self-gt-MOST-clause-fault c = λ base until bytes is. let n = is.0.counted in let m = c.if-self-gt-MOST.true in (is.0.lines, [], c.args.lines.now, (is.0.begun is.1, is.0.timely), inr (omega (arith, n, m)))

pub returns-then-self-gt-MOST-2-clause-fault : goal.returns-then-self-gt-MOST-2-clause-fault
returns-then-self-gt-MOST-2-clause-fault c = λ base until bytes is. let n = is.0.numbered in let m = c.if-self-gt-MOST-2.true in inr (is.0.lines, c.args.lines.now, (is.0.begun is.1, is.0.timely), omega (arith, n, m))

pub returns-in-Ok-None-clause-told : goal.returns-in-Ok-None-clause-told
returns-in-Ok-None-clause-told c = λ base until bytes is.
    let log = c.args.self.now in
    let lines = c.args.lines.now in
    let front = c.in-Ok.front in
    let v = c.read_front.new.rows in
    let read = c.in-Ok.ensures.0 in
    let rows_are = c.in-Ok.ensures.1 in
    let given = subst (λ (p : Parts). IsFront p lines log.rows log.inputs read front) c.program.ensures.value c.in-Ok.ensures.2 in
    let old = c.args.plan.now in
    let t = rows is.0.lines in
    let plan = c.tell_all-taken.new.plan in
    let taken = c.tell_all-taken.result in
    let told = c.tell_all-taken.ensures in
    let follows = cut_behind old t read log.follower v rows_are is.0.follower plan taken.rows c.tell_all-taken.new.follower c.cut.new.self told.stands told.next c.cut.ensures.next c.cut.ensures.stands in
    let left = next_cut old t read log.follower v rows_are is.0.follower plan taken.rows c.tell_all-taken.new.follower c.cut.new.self told.stands told.next c.cut.ensures.next c.cut.ensures.stands in
    let on = rw c.in-Ok-None.field-0-is at (c.in-Ok-None.ensures.told t follows is.0.asked) in
    lines_on base old plan until bytes lines log v read front taken is rows_are given told.taken c.cut.new.self left c.if-self-gt-MOST.false told.within.0 c.in-None.is _ on.0 refl refl c.in-Ok-None.ensures.until on.1 is.1

pub returns-in-Ok-Some-clause-told : goal.returns-in-Ok-Some-clause-told
returns-in-Ok-Some-clause-told c = λ base until bytes is.
    let log = c.args.self.now in
    let lines = c.args.lines.now in
    let front = c.in-Ok.front in
    let v = c.read_front.new.rows in
    let read = c.in-Ok.ensures.0 in
    let rows_are = c.in-Ok.ensures.1 in
    let given = subst (λ (p : Parts). IsFront p lines log.rows log.inputs read front) c.program.ensures.value c.in-Ok.ensures.2 in
    let old = c.args.plan.now in
    let t = rows is.0.lines in
    let plan = c.tell_all-taken.new.plan in
    let taken = c.tell_all-taken.result in
    let told = c.tell_all-taken.ensures in
    let follows = cut_behind old t read log.follower v rows_are is.0.follower plan taken.rows c.tell_all-taken.new.follower c.cut.new.self told.stands told.next c.cut.ensures.next c.cut.ensures.stands in
    let left = next_cut old t read log.follower v rows_are is.0.follower plan taken.rows c.tell_all-taken.new.follower c.cut.new.self told.stands told.next c.cut.ensures.next c.cut.ensures.stands in
    let x = rw c.in-Ok-Some.field-0-is at (c.in-Ok-Some.ensures.told t follows is.0.asked) in
    soon_on base old plan until bytes lines log v read front taken is rows_are given told.taken c.cut.new.self left c.in-Ok-Some.told x.0 x.1 x.2 (subst (λ (o : Option Tag). KeepTo o (t ++ x.0)) is.0.until_is x.3) (subst (λ (o : Option Tag). IsSaid plan o (t ++ x.0) x.1 c.in-Ok-Some.told) is.0.until_is x.4)

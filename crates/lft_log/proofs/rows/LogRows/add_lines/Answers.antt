use Rattle.std.proofs.Common.{◌+◌, ◌-◌, ◌<◌, ◌≤◌, ◌++◌, ◌∙◌, [], List, length, refl, sym, ap, subst, arith}
use Rattle.lft_ir.specs.{Parts.Parts, declared.steps.row.Row.Row}
use Rattle.lft_monitor.specs.inner.Follows.{HasGonePast}
use Rattle.lft_log.specs.inner.Logs.{IsFront}
use Rattle.lft_log.proofs.{Gathering.{all_read, cut_rows, none_is, rows_fit, rows_read}, InPlace.{cut_behind, cut_fit, next_cut, next_read, read_behind}}
use Rattle.lft_log.proofs.rows.LogRows.add_lines.Goals as goal

pub next-requires : goal.next-requires
next-requires c =
    let is = c.requires.stands.3 in
    let r = c.args.self.now in
    (read_behind c.args.plan.now r.rows.items c.in_ok-front.ensures.0 r.follower c.read_front.new.rows c.in_ok-front.ensures.1 is.follower).within

pub tell_all-taken-requires : goal.tell_all-taken-requires
tell_all-taken-requires c =
    let is = c.requires.stands.3 in
    let r = c.args.self.now in
    let old = c.args.plan.now in
    let front = c.in_ok-front.front in
    let v = c.read_front.new.rows in
    let read = c.in_ok-front.ensures.0 in
    let rows_are = c.in_ok-front.ensures.1 in
    let given = subst (λ (p : Parts). IsFront p c.args.lines.now 0 0 read front) c.program.ensures.value c.in_ok-front.ensures.2 in
    let t = r.rows.items in
    record {
      few = omega arith;
      lines = (given.lines, next_read old t read r.follower v rows_are is.follower ∙ given.rows_are, given.inputs_are);
      fit = given.inputs_fit;
      stands = (t, read_behind old t read r.follower v rows_are is.follower);
    }

pub cut-requires : goal.cut-requires
cut-requires c =
    let is = c.requires.stands.3 in
    let r = c.args.self.now in
    let told = c.tell_all-taken.ensures in
    record {
      within = (told.stands r.rows.items (read_behind c.args.plan.now r.rows.items c.in_ok-front.ensures.0 r.follower c.read_front.new.rows c.in_ok-front.ensures.1 is.follower)).within;
      count = subst (λ (u : List Row). c.tell_all-taken.result.rows ≤ length u) (sym told.next) told.within.0;
    }

pub next-requires-2 : goal.next-requires-2
next-requires-2 c =
    let is = c.requires.stands.3 in
    let r = c.args.self.now in
    let old = c.args.plan.now in
    let front = c.in_ok-front.front in
    let v = c.read_front.new.rows in
    let read = c.in_ok-front.ensures.0 in
    let rows_are = c.in_ok-front.ensures.1 in
    let given = subst (λ (p : Parts). IsFront p c.args.lines.now 0 0 read front) c.program.ensures.value c.in_ok-front.ensures.2 in
    let t = r.rows.items in
    let new = c.tell_all-taken.new.plan in
    let taken = c.tell_all-taken.result in
    let told = c.tell_all-taken.ensures in
    (cut_behind old t read r.follower v rows_are is.follower new taken.rows c.tell_all-taken.new.follower c.cut.new.self told.stands told.next c.cut.ensures.next c.cut.ensures.stands).within

pub go_on-requires : goal.go_on-requires
go_on-requires c =
    let is = c.requires.stands.3 in
    let r = c.args.self.now in
    let old = c.args.plan.now in
    let front = c.in_ok-front.front in
    let v = c.read_front.new.rows in
    let read = c.in_ok-front.ensures.0 in
    let rows_are = c.in_ok-front.ensures.1 in
    let given = subst (λ (p : Parts). IsFront p c.args.lines.now 0 0 read front) c.program.ensures.value c.in_ok-front.ensures.2 in
    let t = r.rows.items in
    let new = c.tell_all-taken.new.plan in
    let taken = c.tell_all-taken.result in
    let told = c.tell_all-taken.ensures in
    record {
      fit = cut_fit old t read r.follower v rows_are is.follower new taken.rows c.tell_all-taken.new.follower c.cut.new.self told.stands told.next c.cut.ensures.next c.cut.ensures.stands told.program given.rows_fit.each;
      stands = (t, cut_behind old t read r.follower v rows_are is.follower new taken.rows c.tell_all-taken.new.follower c.cut.new.self told.stands told.next c.cut.ensures.next c.cut.ensures.stands);
    }

pub returns-then-next-len-clause-read : goal.returns-then-next-len-clause-read
returns-then-next-len-clause-read c = λ base bytes behind is.
    let r = c.args.self.now in
    let old = c.args.plan.now in
    let front = c.in_ok-front.front in
    let v = c.read_front.new.rows in
    let read = c.in_ok-front.ensures.0 in
    let rows_are = c.in_ok-front.ensures.1 in
    let given = subst (λ (p : Parts). IsFront p c.args.lines.now 0 0 read front) c.program.ensures.value c.in_ok-front.ensures.2 in
    let t = r.rows.items in
    let next = next_read old t read r.follower v rows_are is.follower in
    let many : 4000000 < length t + length read = (let n = c.if-next-len.true in let a = ap (λ (u : List Row). length u) (c.next.ensures ∙ next) in let b = c.len.ensures in let few = is.fit.few in omega (arith, n, a, b, few)) in
    (([], _, is.tells), is.fit, λ yes. cut_rows base old bytes c.args.lines.now behind r 0 0 read front is given many)

pub returns-then-is_some-clause-read : goal.returns-then-is_some-clause-read
returns-then-is_some-clause-read c = λ base bytes behind is.
    let r = c.args.self.now in
    let old = c.args.plan.now in
    let front = c.in_ok-front.front in
    let v = c.read_front.new.rows in
    let read = c.in_ok-front.ensures.0 in
    let rows_are = c.in_ok-front.ensures.1 in
    let given = subst (λ (p : Parts). IsFront p c.args.lines.now 0 0 read front) c.program.ensures.value c.in_ok-front.ensures.2 in
    let t = r.rows.items in
    let new = c.tell_all-taken.new.plan in
    let taken = c.tell_all-taken.result in
    let told = c.tell_all-taken.ensures in
    let next = next_read old t read r.follower v rows_are is.follower in
    let left = next_cut old t read r.follower v rows_are is.follower new taken.rows c.tell_all-taken.new.follower c.cut.new.self told.stands told.next c.cut.ensures.next c.cut.ensures.stands in
    let few : length read ≤ 4000000 - length t = (let n = c.if-next-len.false in let a = ap (λ (u : List Row). length u) (c.next.ensures ∙ next) in let b = c.len.ensures in omega (arith, n, a, b)) in
    let whole = c.in_ok-extend_from_slice.ensures.items ∙ ap (λ (u : List Row). t ++ u) (c.next-2.ensures ∙ left) in
    rows_read base old new bytes c.args.lines.now behind r 0 0 v read front taken c.extend_from_slice.new.self.items is rows_are given told.program told.taken few whole _ refl

pub returns-in-GoesOn-clause-read : goal.returns-in-GoesOn-clause-read
returns-in-GoesOn-clause-read c = λ base bytes behind is.
    let r = c.args.self.now in
    let old = c.args.plan.now in
    let front = c.in_ok-front.front in
    let v = c.read_front.new.rows in
    let read = c.in_ok-front.ensures.0 in
    let rows_are = c.in_ok-front.ensures.1 in
    let given = subst (λ (p : Parts). IsFront p c.args.lines.now 0 0 read front) c.program.ensures.value c.in_ok-front.ensures.2 in
    let t = r.rows.items in
    let new = c.tell_all-taken.new.plan in
    let taken = c.tell_all-taken.result in
    let told = c.tell_all-taken.ensures in
    let next = next_read old t read r.follower v rows_are is.follower in
    let left = next_cut old t read r.follower v rows_are is.follower new taken.rows c.tell_all-taken.new.follower c.cut.new.self told.stands told.next c.cut.ensures.next c.cut.ensures.stands in
    let few : length read ≤ 4000000 - length t = (let n = c.if-next-len.false in let a = ap (λ (u : List Row). length u) (c.next.ensures ∙ next) in let b = c.len.ensures in omega (arith, n, a, b)) in
    let whole = c.in_ok-extend_from_slice.ensures.items ∙ ap (λ (u : List Row). t ++ u) (c.next-2.ensures ∙ left) in
    let follows = cut_behind old t read r.follower v rows_are is.follower new taken.rows c.tell_all-taken.new.follower c.cut.new.self told.stands told.next c.cut.ensures.next c.cut.ensures.stands in
    let gone = (rw c.in-GoesOn.is at (c.in_ok-go_on.ensures t follows)).0 in
    record {
      tells = all_read base old new bytes c.args.lines.now behind r 0 0 v read front taken c.extend_from_slice.new.self.items is rows_are given told.program told.taken few whole (none_is taken.fault (sym c.is_some.ensures ∙ c.if-is_some.false));
      fit = rows_fit base old new bytes c.args.lines.now behind r 0 0 v read front taken c.extend_from_slice.new.self.items is rows_are given told.program told.taken few whole;
      follower = subst (λ (u : List Row). HasGonePast new u c.go_on.new.self) (ap (λ (u : List Row). t ++ u) left ∙ sym whole) gone;
      uncut = is.uncut;
    }

pub returns : goal.returns
returns c = record {
  program = c.tell_all-taken.ensures.program;
  read = λ base bytes behind is.
      let r = c.args.self.now in
      let old = c.args.plan.now in
      let front = c.in_ok-front.front in
      let v = c.read_front.new.rows in
      let read = c.in_ok-front.ensures.0 in
      let rows_are = c.in_ok-front.ensures.1 in
      let given = subst (λ (p : Parts). IsFront p c.args.lines.now 0 0 read front) c.program.ensures.value c.in_ok-front.ensures.2 in
      let t = r.rows.items in
      let new = c.tell_all-taken.new.plan in
      let taken = c.tell_all-taken.result in
      let told = c.tell_all-taken.ensures in
      let next = next_read old t read r.follower v rows_are is.follower in
      let left = next_cut old t read r.follower v rows_are is.follower new taken.rows c.tell_all-taken.new.follower c.cut.new.self told.stands told.next c.cut.ensures.next c.cut.ensures.stands in
      let few : length read ≤ 4000000 - length t = (let n = c.if-next-len.false in let a = ap (λ (u : List Row). length u) (c.next.ensures ∙ next) in let b = c.len.ensures in omega (arith, n, a, b)) in
      let whole = c.in_ok-extend_from_slice.ensures.items ∙ ap (λ (u : List Row). t ++ u) (c.next-2.ensures ∙ left) in
      rows_read base old new bytes c.args.lines.now behind r 0 0 v read front taken c.extend_from_slice.new.self.items is rows_are given told.program told.taken few whole _ refl;
}

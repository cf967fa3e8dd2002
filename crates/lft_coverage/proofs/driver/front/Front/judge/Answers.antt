use Rattle.std.proofs.Common.{◌∙◌, ◌++◌, List, take, ap, refl, sym, subst, arith}
use Rattle.lft_ir.specs.declared.steps.row.Row.{Row}
use Rattle.lft_trace.specs.inner.Telling.{rows_in}
use Rattle.lft_stream.specs.inner.Kept.{IsAcceptorOf}
use Rattle.lft_counts.specs.Cover.{CoversRows}
use Rattle.lft_coverage.proofs.DriverLemmas.Counting.{comes_next, counts_before, counts_behind, judged_more, keeps, within_more}
use Rattle.lft_coverage.proofs.driver.front.Front.judge.Goals as goal

pub count_next-requires : goal.count_next-requires
count_next-requires c =
    let plan = c.args.plan.now in
    let all = rows_in plan.program c.args.body.now in
    let rows = c.args.rows.now in
    let more = c.requires.next.0 in
    let judged = c.args.self.now.cover.rows in
    let within = c.requires.stands.within in
    let few = c.requires.stands.few in
    let left = c.if-rows-self.false in
    let now = c.if-not-add.ensures refl (take judged all) c.requires.stands.stands in (
      keeps plan (take judged all ++ rows) c.add.new.self now,
      (
        comes_next plan.program all rows more judged within c.requires.next.1,
        (c.requires.fit, (omega (arith, few, left), counts_before plan.program all rows more judged within c.requires.next.1 c.args.self.now.cover c.requires.stands.covers)),
      ),
    )

pub returns-clause-stands : goal.returns-clause-stands
returns-clause-stands c = λ yes.
    let plan = c.args.plan.now in
    let all = rows_in plan.program c.args.body.now in
    let rows = c.args.rows.now in
    let more = c.requires.next.0 in
    let judged = c.args.self.now.cover.rows in
    let within = c.requires.stands.within in
    let few = c.requires.stands.few in
    let left = c.if-rows-self.false in
    let cover = c.count_next.new.cover in
    let now = c.if-not-add.ensures refl (take judged all) c.requires.stands.stands in
    let counts = c.count_next.ensures yes in
    let on = counts.rows in
    let up = within_more plan.program all rows more judged within c.requires.next.1 in
    record {
      stands = subst (λ (t : List Row). IsAcceptorOf plan t c.add.new.self) (sym (ap (λ n. take n all) on ∙ judged_more plan.program all rows more judged within c.requires.next.1)) now;
      within = omega (arith, on, up);
      few = omega (arith, on, few, left);
      covers = subst (λ n. CoversRows plan.program all n cover) (sym on) (counts_behind plan.program all rows more judged within c.requires.next.1 cover counts);
    }

pub returns-clause-rows : goal.returns-clause-rows
returns-clause-rows c = λ yes.
    let plan = c.args.plan.now in
    let all = rows_in plan.program c.args.body.now in
    let on = (c.count_next.ensures yes).rows in
    ap (λ n. take n all) on ∙ judged_more plan.program all c.args.rows.now c.requires.next.0 c.args.self.now.cover.rows c.requires.stands.within c.requires.next.1

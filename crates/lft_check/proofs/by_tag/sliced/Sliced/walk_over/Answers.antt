use Rattle.std.proofs.Common.{List, subst}
use Rattle.lft_ir.specs.{Parts.Parts, declared.steps.row.Row.Row}
use Rattle.lft_rows.specs.inner.Marks.{AreMarks}
use Rattle.lft_check.proofs.ByTagLemmas.Absent.{slice_past}
use Rattle.lft_check.proofs.by_tag.sliced.Sliced.walk_over.Goals as goal

pub returns : goal.returns
returns c =
    let cut = c.args.self.now in
    let s = c.args.slice in
    record {
      marks = subst (λ (p : Parts). AreMarks p cut.rows s.first s.end c.pass_all.new.self) c.program.ensures.value (subst (λ (t : List Row). AreMarks c.program.result.now t s.first s.end c.pass_all.new.self) c.rows.ensures.value c.pass_all.ensures);
      absences = c.requires.before.absences s.tag (slice_past cut c.rows.ensures.rules s c.requires.slice);
    }

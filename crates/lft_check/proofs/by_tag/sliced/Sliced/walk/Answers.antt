use Rattle.std.proofs.Common.{◌≡◌, length, subst}
use Rattle.lft_ir.specs.Parts.{Parts}
use Rattle.lft_rows.specs.inner.Marks.{AreBefore}
use Rattle.lft_check.proofs.ByTagLemmas.Absent.{absences_begin}
use Rattle.lft_check.proofs.by_tag.sliced.Sliced.walk.Goals as goal

pub returns : goal.returns
returns c =
    let cut = c.args.self.now in
    let absences = c.in_ok-absences.absences.items in
    record {
      marks = subst (λ (p : Parts). AreBefore p 0 c.in_ok-marks.marks) c.program.ensures.value c.in_ok-marks.ensures;
      absences = λ h past. absences_begin cut h absences (subst (λ (p : Parts). length absences ≡ length p.reactions) c.program-2.ensures.value c.in_ok-absences.ensures.as_long) c.in_ok-absences.ensures.unknown;
    }

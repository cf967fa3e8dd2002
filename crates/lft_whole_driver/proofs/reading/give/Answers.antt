use Rattle.std.proofs.Common.{[], refl, subst}
use Rattle.lft_whole_parser.specs.inner.Imports.Files.{RefusesNext}
use Rattle.lft_whole_driver.{specs.inner.{Told.IsTold, Unlowered.IsOfNext}, proofs.Saying.told_says}
use Rattle.lft_whole_driver.proofs.reading.give.Goals as goal

pub returns-in-Err-clause-refused : goal.returns-in-Err-clause-refused
returns-in-Err-clause-refused c =
    let before = c.args.sources.now in
    let files = c.give.new.self.files.items in
    let text = c.args.text.items in
    told_says (IsOfNext text before) files [] c.in-Err.stop c.unlowered_by.result (λ r e. (refl, subst (RefusesNext text before files) e c.in-Err.ensures.refused)) (subst (λ fs. IsTold fs [] c.in-Err.stop c.unlowered_by.result) c.files.ensures.files c.unlowered_by.ensures)

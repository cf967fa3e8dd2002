use Rattle.std.proofs.Common.{List, inl, inr, ⊎_elim, refl, subst, sym}
use Rattle.std.proofs.lemmas.Result.{IfErr-weaker, IfOk-weaker}
use Rattle.lft_whole.specs.declared.sources.source.SourceFile.{SourceFile}
use Rattle.lft_whole_driver.{specs.{Lowered.AreFilesOf, Unlowered.{AreRefused, IsOfProgram}}, proofs.Saying.says_too}
use Rattle.lft_whole_driver.proofs.program.whole_program.Goals as goal

pub returns-clause-program : goal.returns-clause-program
returns-clause-program g c =
    let path = c.args.path.now in
    let text = c.args.text.now in
    let are = subst (λ (files : List SourceFile). AreFilesOf path text files) (sym c.files.ensures.files) c.in_ok-sources.ensures.files in
    IfOk-weaker c.program_of.result _ _ (λ whole is. (c.files.result.now, are, is)) c.program_of.ensures.program

pub returns-clause-refused : goal.returns-clause-refused
returns-clause-refused g c =
    let path = c.args.path.now in
    let text = c.args.text.now in
    let files = c.files.result.now in
    let are = subst (λ (these : List SourceFile). AreFilesOf path text these) (sym c.files.ensures.files) c.in_ok-sources.ensures.files in
    IfErr-weaker c.program_of.result _ _ (λ u is. ⊎_elim (λ said. inl (says_too (AreRefused files) (IsOfProgram path text) u (λ these first refusal is_one. inr (subst (λ (x : List SourceFile). AreFilesOf path text x) (sym is_one.0) are, (refl, is_one.1))) said)) (λ tree. inr (files, are, tree)) is) c.program_of.ensures.refused

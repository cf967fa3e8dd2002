use Rattle.std.proofs.Common.{◌≡◌, ◌⊎◌, false, true, IfSome, codes, inl, inr, subst, sym, ◌∙◌}
use Rattle.std.{specs.Str.Iter.HasSubslice, proofs.lemmas.Str.Pattern.contains_text}
use Rattle.lft_text_diagnostics.specs.inner.Refusals.{BeginsTable, IsRefusedFrom, MayHelp}
use Rattle.lft_text_diagnostics.proofs.program_text.way_at.Goals.{in-Some, in-None+in_ok-way-in-None}
use Rattle.lft_text_diagnostics.proofs.program_text.way_at.Goals as goal

pub returns-in-Some-way : goal.returns-in-Some-way
returns-in-Some-way c =
    let t = c.args.text.now in
    let words = c.in-Some-way.words in
    let refused : BeginsTable t ⊎ IsRefusedFrom t c.args.from c.args.at = elim c.match-of_program.branch [
      | in-Some w ↦ inl (subst (λ o. IfSome o (λ _. BeginsTable t)) w.in-Some.is c.of_program.ensures)
      | in-None+in_ok-way-in-None w ↦ inr (subst (λ o. IfSome o (λ _. IsRefusedFrom t c.args.from c.args.at)) (sym w.way'-is ∙ c.in-Some-way.is) w.in_ok-way-in-None.ensures)
    ] in
    let core : HasSubslice words.now (codes "left out") → ⊥ = λ has. let found = contains_text c.contains.result (codes "left out") words.now c.contains.ensures.cases in let yes = found.1 has in let no = c.if-not-contains.true in absurd (let z : ◌≡◌ false true = sym no ∙ yes in cc) in
    subst (λ o. IfSome o (λ found. MayHelp t c.args.from c.args.at found.now)) (sym c.in-Some-way.is) (refused, core)

use Rattle.std.proofs.Common.{Some, refl, ap, ◌∙◌, arith}
use Rattle.std.proofs.lemmas.Grind.{common_steps}
use Rattle.lft_program.proofs.{Zipping.then_some, ByNumber.{item_same, row_within, then_at}}
use Rattle.lft_program.proofs.laying.action.Goals as goal

pub declarations_of-declarations-requires : goal.declarations_of-declarations-requires
declarations_of-declarations-requires c = let d = then_some _ _ _ c.requires.1 in (d.0, d.1)

pub index-sheet-requires : goal.index-sheet-requires
index-sheet-requires c = let within = row_within (λ d. d.actions.items) _ _ _ _ c.requires.1 c.declarations_of-declarations.ensures in grind (arith, common_steps)

pub returns : goal.returns
returns c =
    let at = then_at _ _ _ _ c.requires.1 c.declarations_of-declarations.ensures in
    let same = item_same c.declarations_of-declarations.result.now.actions.items c.args.thing.place c.requires.0 c.index-sheet.result.now at c.index-sheet.ensures in
    record { sheet = c.index-sheet.result.now; is_sheet = c.requires.1 ∙ ap Some same; instance = refl; physical = refl; min_delay = c.read.ensures }

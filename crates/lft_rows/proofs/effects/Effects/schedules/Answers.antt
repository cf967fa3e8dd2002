use Rattle.std.proofs.Common.{◌≡◌, ◌∙◌, length, sym, Some, slice_get}
use Rattle.std.proofs.lemmas.Option.{slice_get_read}
use Rattle.lft_ir.specs.declared.parts.Name.TheVariants.{Action}
use Rattle.lft_model.specs.Runs.{effects_of}
use Rattle.lft_rows.proofs.Declares.{any_contains}
use Rattle.lft_rows.proofs.effects.Effects.schedules.Goals as goal

pub returns : goal.returns
returns c =
    let own = c.index.result.now in
    let here : slice_get c.args.self.now.sets.items c.args.reaction ≡ Some own = slice_get_read c.args.self.now.sets.items (length c.args.program.now.reactions) c.args.reaction own (sym c.requires.effects.count) c.requires.reaction c.index.ensures in
    any_contains (effects_of c.args.program.now c.args.reaction) (Action c.args.action) c.contains.result (c.contains.ensures ∙ (c.requires.effects.each c.args.reaction own here).actions c.args.action)

use Rattle.std.proofs.Common.{length, ◌<◌, ◌∙◌, arith}
use Rattle.std.proofs.lemmas.Option.{get_or_from_slice_get}
use Rattle.lft_ir.specs.Parts.{inputs}
use Rattle.lft_lists.proofs.Places.{get_there}
use Rattle.lft_model.proofs.Places.{slice_get_within}
use Rattle.lft_rows.proofs.marks.Marks.known.Goals as goal

pub index-requires : goal.index-requires
index-requires c =
    let x = get_there c.args.program.now.reactions c.args.reaction c.requires.reaction in
    let l : c.args.reaction < length c.args.self.now.inputs.items = slice_get_within c.args.self.now.inputs.items c.args.reaction (inputs x.0) (c.requires.laid.inputs_are c.args.reaction x.0 x.1) in
    grind (arith, l)

pub returns : goal.returns
returns c =
    let x = get_there c.args.program.now.reactions c.args.reaction c.requires.reaction in
    let own = c.requires.laid.inputs_are c.args.reaction x.0 x.1 in
    (x.0, x.1, c.index.ensures ∙ get_or_from_slice_get c.args.self.now.inputs.items c.args.reaction (inputs x.0) c.index.result.now own)

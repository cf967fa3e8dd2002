use Rattle.std.proofs.Common.{◌+◌, ◌<◌, ◌≤◌, length, refl, sym, arith}
use Rattle.std.proofs.lemmas.{List.nil_from_length, Option.slice_get_read}
use Rattle.lft_ir.specs.Parts.{inputs}
use Rattle.lft_lists.proofs.Places.{get_there}
use Rattle.lft_rows.specs.inner.Marks.{width}
use Rattle.lft_rows.proofs.marks.Marks.inputs.Goals as goal

pub returns-then-index-end_of : goal.returns-then-index-end_of
returns-then-index-end_of c =
    let x = get_there c.args.program.now.reactions c.args.reaction c.requires.reaction in
    let firsts = c.args.self.now.firsts.items in
    let within : c.args.reaction < length firsts = let a = c.requires.laid.as_long in let b = c.requires.reaction in omega (arith, a, b) in
    let at = slice_get_read firsts (length firsts) c.args.reaction c.index.result.now refl within c.index.ensures in
    let end : c.index.result.now + width x.0 ≤ c.end_of.result = c.end_of.ensures x.0 c.index.result.now x.1 at in
    (x.0, x.1, sym (nil_from_length (inputs x.0) (let t = c.if-index-end_of.true in omega (arith, end, t))))

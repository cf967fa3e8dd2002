use Rattle.std.proofs.Common.{◌+◌, ◌<◌, length, refl, arith}
use Rattle.std.proofs.lemmas.Option.{slice_get_read}
use Rattle.lft_rows.proofs.marks.Marks.end_of.Goals as goal

pub returns-then-next-len : goal.returns-then-next-len
returns-then-next-len c = λ x f ex ef.
    let firsts = c.args.self.now.firsts.items in
    let r = c.args.reaction in
    let within : r + 1 < length firsts = let t = c.if-next-len.true in omega (arith, t, c.len.ensures) in
    c.requires.laid.laid.apart r (r + 1) f c.index.result.now x (omega arith) ex ef (slice_get_read firsts (length firsts) (r + 1) c.index.result.now refl within c.index.ensures)

use Rattle.std.proofs.Common.{◌/◌, ◌<◌, length, sym, ap, arith}
use Rattle.lft_graph.proofs.Bits.{insert_has, word_at}
use Rattle.lft_graph.proofs.sets.Set.insert.Goals as goal

pub returns-clause-members : goal.returns-clause-members
returns-clause-members c r =
    let words = c.self.inside.words.items in
    let word = c.index_mut.result.now in
    let there : c.args.number / 64 < length words = omega (arith, ap length c.self.view_is, c.requires) in
    rw (sym c.self.view_is) (insert_has words c.args.number word there (word_at words (c.args.number / 64) word there c.index_mut.ensures.value) r)

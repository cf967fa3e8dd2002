use Rattle.std.proofs.Common.{◌/◌, ◌<◌, length, sym, ap, arith}
use Rattle.lft_graph.proofs.{Bits.word_at, Toggling.{toggle_other, toggle_put, toggle_taken}}
use Rattle.lft_graph.proofs.sets.Set.toggle.Goals as goal

pub returns-clause-others : goal.returns-clause-others
returns-clause-others c r n =
    let words = c.self.inside.words.items in
    let word = c.index_mut.result.now in
    let there : c.args.number / 64 < length words = omega (arith, ap length c.self.view_is, c.requires) in
    rw (sym c.self.view_is) (toggle_other words c.args.number word there (word_at words (c.args.number / 64) word there c.index_mut.ensures.value) r n)

pub returns-clause-put : goal.returns-clause-put
returns-clause-put c n =
    let words = c.self.inside.words.items in
    let word = c.index_mut.result.now in
    let there : c.args.number / 64 < length words = omega (arith, ap length c.self.view_is, c.requires) in
    toggle_put words c.args.number word there (word_at words (c.args.number / 64) word there c.index_mut.ensures.value) (λ h. n (rw (sym c.self.view_is) h))

pub returns-clause-taken : goal.returns-clause-taken
returns-clause-taken c h =
    let words = c.self.inside.words.items in
    let word = c.index_mut.result.now in
    let there : c.args.number / 64 < length words = omega (arith, ap length c.self.view_is, c.requires) in
    toggle_taken words c.args.number word there (word_at words (c.args.number / 64) word there c.index_mut.ensures.value) (rw c.self.view_is h)

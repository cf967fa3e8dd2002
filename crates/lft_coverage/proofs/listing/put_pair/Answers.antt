use Rattle.std.proofs.Common.{sym, ap}
use Rattle.lft_coverage.{specs.Facts.pair_words, proofs.Taking.{took_both, took_nothing, took_so}}
use Rattle.lft_coverage.proofs.listing.put_pair.Goals as goal

pub returns-then-met : goal.returns-then-met
returns-then-met g c = took_so (ap (λ b. pair_words c.args.program.now b c.args.first c.args.then) (sym c.if-met.true)) (took_both (took_both (took_both (took_both c.put-whole.ensures c.put_reaction-whole.ensures) c.put-whole-then-met.ensures) c.put_reaction-whole-then-met.ensures) c.put.ensures)

pub returns : goal.returns
returns g c = took_so (ap (λ b. pair_words c.args.program.now b c.args.first c.args.then) (sym c.if-met.false)) (took_nothing _ _)

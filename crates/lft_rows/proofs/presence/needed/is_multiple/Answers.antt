use Rattle.std.proofs.Common.{◌%◌, arith}
use Rattle.std.proofs.lemmas.Bool.{eq-eqb, Decides.nat_tests}
use Rattle.lft_rows.proofs.PresenceLemmas.Needing.{multiple_once, multiple_zero, multiple_of, multiple_rest}
use Rattle.lft_rows.proofs.presence.needed.is_multiple.Goals as goal

pub returns-then-period-eq0 : goal.returns-then-period-eq0
returns-then-period-eq0 c = (λ e. multiple_once c.args.time c.args.period c.if-period-eq0.true (grind (arith, nat_tests, e)), λ m. eq-eqb c.args.time 0 (multiple_zero c.args.time c.args.period m c.if-period-eq0.true))

pub returns-else-period-eq0 : goal.returns-else-period-eq0
returns-else-period-eq0 c = (λ e. multiple_of c.args.time c.args.period c.if-period-eq0.false (grind (arith, nat_tests, e)), λ m. eq-eqb (c.args.time % c.args.period) 0 (multiple_rest c.args.time c.args.period m c.if-period-eq0.false))

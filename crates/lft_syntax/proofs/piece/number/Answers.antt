use Rattle.std.proofs.Common.{arith, sym, ◌∙◌}
use Rattle.lft_syntax.{specs.Lexes.value, proofs.Numbers.{value_step, value_large}}
use Rattle.lft_syntax.proofs.piece.number.Goals as goal

pub returns-then-number-digit-clause-none : goal.returns-then-number-digit-clause-none
returns-then-number-digit-clause-none c = value_large c.args.text.now c.loop-at.at c.args.end c.loop-at.number (value c.args.text.now c.args.from c.args.end) c.loop-at-test.true c.requires.within c.loop-at.invariant (omega arith)

pub loop-at-preserved : goal.loop-at-preserved
loop-at-preserved c = sym (value_step c.args.text.now c.loop-at.at c.args.end c.loop-at.number c.loop-at-test.true c.requires.within) ∙ c.loop-at.invariant

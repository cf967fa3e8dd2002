use Rattle.std.proofs.Common.{sym, ◌∙◌}
use Rattle.std.specs.Prelude.{slice_range}
use Rattle.lft_whole.{specs.Pieces.digits_from, proofs.Digits.{digits_step, digits_large}}
use Rattle.lft_whole.proofs.numbers.number.Goals as goal

pub returns-then-number-digit : goal.returns-then-number-digit
returns-then-number-digit c = digits_large c.args.base c.args.text.now c.loop-at.at c.args.end c.loop-at.number (digits_from c.args.base 0 (slice_range c.args.text.now c.args.from c.args.end)) 18446744073709551615 c.hexadecimal-digit.result c.loop-at-test.true c.requires.within c.requires.base.0 c.loop-at.invariant c.hexadecimal-digit.ensures.is c.if-number-digit.true

pub loop-at-preserved : goal.loop-at-preserved
loop-at-preserved c = sym (digits_step c.args.base c.args.text.now c.loop-at.at c.args.end c.loop-at.number c.hexadecimal-digit.result c.loop-at-test.true c.requires.within c.hexadecimal-digit.ensures.is) ∙ c.loop-at.invariant

use Rattle.std.proofs.Common.{◌∙◌, refl, sym}
use Rattle.std.proofs.lemmas.Bool.{false≢true}
use Rattle.lft_log.{specs.declared.fault.LogFault.TheVariants.{NotPlain, NotPlainInput, SecondHeader}, proofs.Odd.odd_line}
use Rattle.lft_log.proofs.front.fault_of_odd.Goals as goal

pub returns-then-has_words : goal.returns-then-has_words
returns-then-has_words c = odd_line c.args.lines.now c.first_line.result c.args.row c.args.input (SecondHeader c.args.row) c.first_line.ensures.line (λ odd. (refl, c.has_words.ensures.0 c.if-has_words.true))

pub returns-then-is_input : goal.returns-then-is_input
returns-then-is_input c = odd_line c.args.lines.now c.first_line.result c.args.row c.args.input (NotPlainInput c.args.input) c.first_line.ensures.line (λ odd. (refl, odd, (λ w. false≢true (sym c.if-has_words.false ∙ c.has_words.ensures.1 w)), c.is_input.ensures.0 c.if-is_input.true))

pub returns-else-is_input : goal.returns-else-is_input
returns-else-is_input c = odd_line c.args.lines.now c.first_line.result c.args.row c.args.input (NotPlain c.args.row) c.first_line.ensures.line (λ odd. (refl, odd, (λ w. false≢true (sym c.if-has_words.false ∙ c.has_words.ensures.1 w)), λ i. false≢true (sym c.if-is_input.false ∙ c.is_input.ensures.1 i)))

use Rattle.std.proofs.Common.{sym, ◌∙◌, arith}
use Rattle.lft_whole.proofs.CodeEnds.{code_starts, code_ends, code_goes, code_open}
use Rattle.lft_whole.proofs.quotes.past_code.Goals as goal

pub code-init : goal.code-init
code-init c = record { order = omega arith; left = code_starts c.args.text.now c.args.from; nothing = λ k a b q. absurd (omega arith) }

pub returns-then-pair_stands-clause-is : goal.returns-then-pair_stands-clause-is
returns-then-pair_stands-clause-is c = sym (code_ends c.args.text.now c.args.from c.code.at c.code.invariant.left c.code-test.true (sym c.pair_stands.ensures.is ∙ c.if-pair_stands.true))

pub code-preserved : goal.code-preserved
code-preserved c =
    let further = c.past_one.ensures.within.0 in
    record {
      order = omega arith;
      left = code_goes c.args.text.now c.args.from c.code.at c.past_one.result.0 c.code.invariant.left c.code-test.true (sym c.pair_stands.ensures.is ∙ c.if-pair_stands.false) c.past_one.ensures.next further;
      nothing = λ k a b q. c.past_one.ensures.nothing k (omega arith) b q;
    }

pub returns-clause-is : goal.returns-clause-is
returns-clause-is c = sym (code_open c.args.text.now c.args.from c.code.at c.code.invariant.left c.code-test.false)

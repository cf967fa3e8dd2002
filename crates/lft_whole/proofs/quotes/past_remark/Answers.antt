use Rattle.std.proofs.Common.{◌+◌, [], ◌∷◌, sym, ◌∙◌, arith}
use Rattle.lft_whole.{specs.Pieces.stands, proofs.Searches.{found_past, none_past}}
use Rattle.lft_whole.proofs.quotes.past_remark.Goals as goal

pub returns-then-pair_stands-clause-is : goal.returns-then-pair_stands-clause-is
returns-then-pair_stands-clause-is c = found_past c.args.text.now (stands (42 ∷ 47 ∷ []) c.args.text.now) 2 c.args.from c.loop-at.at (c.loop-at.at + 2) (omega arith) c.loop-at-test.true (sym c.pair_stands.ensures.is ∙ c.if-pair_stands.true) c.loop-at.invariant (omega arith)

pub returns-clause-is : goal.returns-clause-is
returns-clause-is c = none_past c.args.text.now (stands (42 ∷ 47 ∷ []) c.args.text.now) 2 c.args.from (λ k a b. c.loop-at.invariant k a (omega arith))

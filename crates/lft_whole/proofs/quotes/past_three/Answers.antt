use Rattle.std.proofs.Common.{◌+◌, [], ◌∷◌, sym, ◌∙◌, arith}
use Rattle.lft_whole.{specs.Pieces.stands, proofs.Searches.{found_past, none_past}}
use Rattle.lft_whole.proofs.quotes.past_three.Goals as goal

pub returns-then-three_stand-clause-is : goal.returns-then-three_stand-clause-is
returns-then-three_stand-clause-is c = found_past c.args.text.now (stands (c.args.byte ∷ c.args.byte ∷ c.args.byte ∷ []) c.args.text.now) 3 c.args.from c.loop-at.at (c.loop-at.at + 3) (omega arith) c.loop-at-test.true (sym c.three_stand.ensures.is ∙ c.if-three_stand.true) c.loop-at.invariant (omega arith)

pub returns-clause-is : goal.returns-clause-is
returns-clause-is c = none_past c.args.text.now (stands (c.args.byte ∷ c.args.byte ∷ c.args.byte ∷ []) c.args.text.now) 3 c.args.from (λ k a b. c.loop-at.invariant k a (omega arith))

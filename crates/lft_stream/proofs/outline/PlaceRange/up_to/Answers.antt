use Rattle.lft_stream.proofs.Outlining.{span_first, span_more}
use Rattle.lft_stream.proofs.outline.PlaceRange.up_to.Goals as goal

pub returns-then-self-eq0 : goal.returns-then-self-eq0
returns-then-self-eq0 c = λ u is. span_first u c.args.place c.args.self c.if-self-eq0.true is

pub returns : goal.returns
returns c = λ u is. span_more u c.args.place c.args.self is

use Rattle.std.proofs.Common.{◌≡◌, map, take}
use Rattle.std.specs.Int.{int_wrap, w64}
use Rattle.lft_record.specs.Expressions.{term_value, total}
use Rattle.lft_record.proofs.cards.expression.Sum.value.Given as goal

abbrev pub invariant-loop-at : goal.invariant-loop-at
invariant-loop-at l = l.sum ≡ int_wrap w64 (total (map (term_value l.tag l.state l.reads) (take l.at l.terms)))

use Rattle.std.proofs.Common.{◌+◌, [], ◌∷◌, sym, ◌∙◌, arith}
use Rattle.lft_whole.{specs.Pieces.closes, proofs.{Searches.{none_more, found_past, none_past}, Escapes.{escape_starts, escape_kept, closes_is}}}
use Rattle.lft_whole.proofs.quotes.past_long_string.Goals as goal

pub loop-at-init : goal.loop-at-init
loop-at-init c = record { escaped = sym (escape_starts c.args.text.now c.args.from); none = λ k a b. absurd (omega arith) }

pub returns-then-is_free-clause-is : goal.returns-then-is_free-clause-is
returns-then-is_free-clause-is c =
    let here = closes_is (34 ∷ 34 ∷ 34 ∷ []) c.args.text.now c.args.from c.loop-at.at c.loop-at.is_escaped c.three_stand-are_quotes.result c.is_free.result c.loop-at.invariant.escaped c.three_stand-are_quotes.ensures.is c.is_free.ensures in
    found_past c.args.text.now (closes (34 ∷ 34 ∷ 34 ∷ []) c.args.text.now c.args.from) 3 c.args.from c.loop-at.at (c.loop-at.at + 3) (omega arith) c.loop-at-test.true (sym here ∙ c.if-is_free.true) c.loop-at.invariant.none (omega arith)

pub loop-at-preserved : goal.loop-at-preserved
loop-at-preserved c =
    let here = closes_is (34 ∷ 34 ∷ 34 ∷ []) c.args.text.now c.args.from c.loop-at.at c.loop-at.is_escaped c.three_stand-are_quotes.result c.is_free.result c.loop-at.invariant.escaped c.three_stand-are_quotes.ensures.is c.is_free.ensures in
    record {
      escaped = escape_kept c.args.text.now c.args.from c.loop-at.at c.loop-at.is_escaped c.stands-is_backslash.result c.is_free-is_escaped.result (omega arith) c.loop-at.invariant.escaped c.stands-is_backslash.ensures.is c.is_free-is_escaped.ensures;
      none = none_more (closes (34 ∷ 34 ∷ 34 ∷ []) c.args.text.now c.args.from) c.args.from c.loop-at.at c.loop-at.invariant.none (sym here ∙ c.if-is_free.false);
    }

pub returns-clause-is : goal.returns-clause-is
returns-clause-is c = none_past c.args.text.now (closes (34 ∷ 34 ∷ 34 ∷ []) c.args.text.now c.args.from) 3 c.args.from (λ k a b. c.loop-at.invariant.none k a (omega arith))

use Rattle.std.proofs.Common.{[], ◌∷◌, sym, ◌∙◌, arith}
use Rattle.lft_whole.proofs.Escapes.{escape_starts, escape_kept, closes_is, quote_found, line_found, line_goes, line_open}
use Rattle.lft_whole.proofs.quotes.past_in_line.Goals as goal

pub loop-at-init : goal.loop-at-init
loop-at-init c = record { escaped = sym (escape_starts c.args.text.now c.args.from); none = λ k a b. absurd (omega arith) }

pub returns-then-is_free-clause-is : goal.returns-then-is_free-clause-is
returns-then-is_free-clause-is c =
    let quote = closes_is (c.args.quote ∷ []) c.args.text.now c.args.from c.loop-at.at c.loop-at.is_escaped c.stands-is_quote.result c.is_free.result c.loop-at.invariant.escaped c.stands-is_quote.ensures.is c.is_free.ensures in
    sym (quote_found c.args.quote c.args.text.now c.args.from c.loop-at.at (omega arith) c.loop-at-test.true c.loop-at.invariant.none (sym quote ∙ c.if-is_free.true))

pub returns-then-is_free-2-clause-is : goal.returns-then-is_free-2-clause-is
returns-then-is_free-2-clause-is c =
    let quote = closes_is (c.args.quote ∷ []) c.args.text.now c.args.from c.loop-at.at c.loop-at.is_escaped c.stands-is_quote.result c.is_free.result c.loop-at.invariant.escaped c.stands-is_quote.ensures.is c.is_free.ensures in
    let line = closes_is (10 ∷ []) c.args.text.now c.args.from c.loop-at.at c.loop-at.is_escaped c.stands-is_end.result c.is_free-in-loop-at.result c.loop-at.invariant.escaped c.stands-is_end.ensures.is c.is_free-in-loop-at.ensures in
    sym (line_found c.args.quote c.args.text.now c.args.from c.loop-at.at (omega arith) c.loop-at-test.true c.loop-at.invariant.none (sym quote ∙ c.if-is_free.false) (sym line ∙ c.if-is_free-2.true))

pub loop-at-preserved : goal.loop-at-preserved
loop-at-preserved c =
    let quote = closes_is (c.args.quote ∷ []) c.args.text.now c.args.from c.loop-at.at c.loop-at.is_escaped c.stands-is_quote.result c.is_free.result c.loop-at.invariant.escaped c.stands-is_quote.ensures.is c.is_free.ensures in
    let line = closes_is (10 ∷ []) c.args.text.now c.args.from c.loop-at.at c.loop-at.is_escaped c.stands-is_end.result c.is_free-in-loop-at.result c.loop-at.invariant.escaped c.stands-is_end.ensures.is c.is_free-in-loop-at.ensures in
    record {
      escaped = escape_kept c.args.text.now c.args.from c.loop-at.at c.loop-at.is_escaped c.stands-is_backslash.result c.is_free-is_escaped.result (omega arith) c.loop-at.invariant.escaped c.stands-is_backslash.ensures.is c.is_free-is_escaped.ensures;
      none = line_goes c.args.quote c.args.text.now c.args.from c.loop-at.at c.loop-at.invariant.none (sym quote ∙ c.if-is_free.false) (sym line ∙ c.if-is_free-2.false);
    }

pub returns-clause-is : goal.returns-clause-is
returns-clause-is c = sym (line_open c.args.quote c.args.text.now c.args.from (λ k a b. c.loop-at.invariant.none k a (omega arith)))

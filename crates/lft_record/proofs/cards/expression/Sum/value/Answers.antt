use Rattle.std.proofs.Common.{arith, get_or, pos}
use Rattle.std.{specs.Int.{cast_signed, cast_unsigned, w64}, proofs.lemmas.{Int.SFits-int_wrap, Option.slice_get-get_or}}
use Rattle.lft_record.{specs.Expressions.term_value, proofs.Sums.sum_next}
use Rattle.lft_record.specs.declared.cards.expression.Summand.TheVariants as term
use Rattle.lft_record.proofs.cards.expression.Sum.value.Goals as goal

pub loop-at-preserved : goal.loop-at-preserved
loop-at-preserved c =
    let terms = c.as_slice-terms.result.now in
    let f = term_value c.args.tag (cast_signed w64 (cast_unsigned w64 c.args.state)) c.args.reads.now in
    let t = get_or terms c.loop-at.at (term.Number (pos 0)) in
    sum_next f terms c.loop-at.at c.loop-at.sum-bits c.value-sum.result t c.loop-at.auto.sum.fits (rw c.value-sum.ensures (SFits-int_wrap w64 (f t))) c.loop-at.invariant c.value-sum.ensures (slice_get-get_or terms c.loop-at.at (term.Number (pos 0)) (omega arith))

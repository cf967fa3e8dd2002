use Rattle.std.proofs.Common.{ap, sym, ◌∙◌}
use Rattle.std.{specs.Int.{cast_signed, cast_unsigned, w64}, proofs.lemmas.Int.of_z-to_z}
use Rattle.lft_record.proofs.Sums.{wrap_natural}
use Rattle.lft_record.proofs.cards.expression.wrapped.Goals as goal

pub returns : goal.returns
returns c = ap (λ z. cast_signed w64 (cast_unsigned w64 z)) c.cast_signed.ensures ∙ ap (cast_signed w64) (of_z-to_z w64 c.args.time c.ranges.time.fits) ∙ sym (wrap_natural c.args.time c.ranges.time.fits)

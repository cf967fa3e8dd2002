use Rattle.std.proofs.Common.{string_bytes, length, max, ap, ◌∙◌, arith}
use Rattle.lft_pair.{specs.Words.effect_words, proofs.Texts.{widest_next, widest_end}}
use Rattle.lft_pair.proofs.contrasting.table.effect_width.Goals as goal

pub loop-place-preserved : goal.loop-place-preserved
loop-place-preserved c =
    let e = widest_next (effect_words c.args.program.now) 6 c.args.contrasts.now c.loop-place.place c.item_at.result (string_bytes c.in_ok-cell.cell) c.loop-place.width c.item_at.ensures c.in_ok-cell.ensures c.loop-place.invariant in
    c.wider-width.ensures ∙ ap (λ l. max c.loop-place.width (length l)) c.as_str.ensures.value ∙ e

pub returns : goal.returns
returns c = widest_end (effect_words c.args.program.now) 6 c.args.contrasts.now c.loop-place.place c.loop-place.width (omega arith) c.loop-place.invariant

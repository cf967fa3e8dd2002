use Rattle.std.proofs.Common.{string_bytes, arith}
use Rattle.lft_pair.{specs.{Words.{effect_words, first_words}, Told.{heading_words, widest}}, proofs.Texts.{told_next, told_end, same_width}}
use Rattle.lft_pair.proofs.contrasting.telling.tell.Goals as goal

pub loop-place-preserved : goal.loop-place-preserved
loop-place-preserved c =
    let w = c.in_ok-widths.widths in
    told_next c.args.program.now (heading_words c.args.program.now c.args.tag c.args.reaction w.effect w.first) w.effect w.first c.as_slice-contrasts.result.now c.loop-place.place c.item_at.result (string_bytes c.loop-place.text) (string_bytes c.push_contrast.new.text) c.item_at.ensures c.loop-place.invariant c.in_ok-push_contrast.ensures

pub returns : goal.returns
returns c =
    let w = c.in_ok-widths.widths in
    let all = c.args.contrasts.now in
    let words = effect_words c.args.program.now in
    let cs = c.as_slice-contrasts.result.now in
    told_end c.args.program.now c.args.tag c.args.reaction w.effect w.first (widest words 6 all) (widest first_words 5 all) cs all c.loop-place.place (string_bytes c.loop-place.text) c.as_slice-contrasts.ensures (same_width words 6 cs all w.effect c.as_slice-contrasts.ensures c.in_ok-widths.ensures.effect) (same_width first_words 5 cs all w.first c.as_slice-contrasts.ensures c.in_ok-widths.ensures.first) (omega arith) c.loop-place.invariant

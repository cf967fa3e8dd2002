use Rattle.std.proofs.Common.{refl, sym, ◌∙◌, arith}
use Rattle.lft_whole.specs.{Parts.{Language.{ignored, this}, Parts.signs}, inner.Parts.Parsing.source}
use Rattle.lft_whole.proofs.PartsLemmas.Loop.{loop_opens, loop_turns, loop_done}
use Rattle.lft_whole.specs.Parts.Parts as Parts
use Rattle.lft_whole.proofs.parts.types.past_signs.Goals as goal

pub signs-init : goal.signs-init
unfolding signs
signs-init c = record { within = (omega arith, c.requires); read = loop_opens (λ _. Parts.on_sign) (λ _. ignored this) (source c.args.input.now) tt c.args.at (Parts.signs (source c.args.input.now) c.args.at) refl }

pub signs-preserved : goal.signs-preserved
signs-preserved c =
    let inside = c.is_sign.ensures.inside c.signs-test.true in
    let within = c.signs.invariant.within in
    record { within = (omega (arith, within.0), omega (arith, inside)); read = loop_turns c.signs.invariant.read (sym c.is_sign.ensures.is ∙ c.signs-test.true) refl (omega arith) (omega (arith, inside)) }

pub returns-clause-gives : goal.returns-clause-gives
returns-clause-gives c = loop_done c.signs.invariant.read (sym c.is_sign.ensures.is ∙ c.signs-test.false)

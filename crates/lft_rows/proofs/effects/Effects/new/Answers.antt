use Rattle.std.proofs.Common.{◌≡◌, arith, refl}
use Rattle.std.proofs.lemmas.Grind.{common_steps}
use Rattle.lft_lists.proofs.Places.{get_push_cases}
use Rattle.lft_model.specs.Runs.{effects_of}
use Rattle.lft_rows.proofs.effects.Effects.new.Goals as goal

pub loop-number-preserved : goal.loop-number-preserved
loop-number-preserved c =
    let here : effects_of c.args.program.now c.loop-number.number ≡ c.reaction.result.now.effects = rw c.reaction.ensures.value refl in
    record {
      count = grind (arith, common_steps);
      each = λ r o e. grind (arith, common_steps, get_push_cases c.loop-number.sets.items c.in_ok-new.field-0 r o, here, c.loop-number.invariant.each r o);
    }

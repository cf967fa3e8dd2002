use Rattle.std.proofs.Common.{◌≡◌, arith, get_or}
use Rattle.std.proofs.lemmas.{Grind.common_steps, Option.get_or_from_slice_get}
use Rattle.lft_rows.proofs.effects.EffectSets.new.Goals.{in-Port+in_ok-_is_new-in-Port, in-Action+in_ok-_is_new-in-Action}
use Rattle.lft_rows.proofs.effects.EffectSets.new.Goals as goal

pub loop-place-preserved : goal.loop-place-preserved
loop-place-preserved c =
    let n = c.item_at.result in
    let here : get_or c.args.names.now c.loop-place.place n ≡ n = get_or_from_slice_get c.args.names.now c.loop-place.place n n c.item_at.ensures in
    elim c.match-item_at.branch [
      | in-Port+in_ok-_is_new-in-Port w ↦ rw (w.ports-is, w.actions-is) (record {
        ports = λ q. grind (arith, common_steps, c.loop-place.invariant.ports q);
        actions = λ q. grind (arith, common_steps, c.loop-place.invariant.actions q);
      })
      | in-Action+in_ok-_is_new-in-Action w ↦ rw (w.ports-is, w.actions-is) (record {
        ports = λ q. grind (arith, common_steps, c.loop-place.invariant.ports q);
        actions = λ q. grind (arith, common_steps, c.loop-place.invariant.actions q);
      })
    ]

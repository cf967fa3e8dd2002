use Rattle.std.proofs.Common.{◌≡◌, Some, length, refl, slice_get, subst, arith, rules}
use Rattle.lft_ir.specs.Parts.{Parts}
use Rattle.lft_facts.proofs.Untriggered.{untold_begin, untold_more, untold_gives}
use Rattle.lft_facts.proofs.triggers.not_triggered.Goals as goal

pub loop-place-init : goal.loop-place-init
loop-place-init c = untold_begin c.args.plan.now c.args.rows.now c.args.tag c.args.reaction c.start_of-start.result c.reaction.result.now (subst (λ (z : Parts). slice_get z.reactions c.args.reaction ≡ Some c.reaction.result.now) c.program.ensures.value c.reaction.ensures.value) c.as_slice-triggers.result.now c.as_slice-triggers.ensures (length c.as_slice-triggers.result.now) c.push-2.new.self.items refl (search rules) c.start_of-start.ensures

pub loop-place-preserved : goal.loop-place-preserved
loop-place-preserved c = untold_more c.args.plan.now c.args.rows.now c.args.tag c.args.reaction c.start_of-start.result c.reaction.result.now (subst (λ (z : Parts). slice_get z.reactions c.args.reaction ≡ Some c.reaction.result.now) c.program.ensures.value c.reaction.ensures.value) c.as_slice-triggers.result.now c.as_slice-triggers.ensures c.requires.none c.loop-place.place c.loop-place.facts.items _ c.item_at.result c.loop-place.invariant c.item_at.ensures c.in_ok-push-3.ensures.items

pub returns-clause-enough : goal.returns-clause-enough
returns-clause-enough c = untold_gives c.args.plan.now c.args.rows.now c.args.tag c.args.reaction c.start_of-start.result c.reaction.result.now (subst (λ (z : Parts). slice_get z.reactions c.args.reaction ≡ Some c.reaction.result.now) c.program.ensures.value c.reaction.ensures.value) c.as_slice-triggers.result.now c.as_slice-triggers.ensures c.loop-place.place c.loop-place.facts.items (omega arith) c.loop-place.invariant

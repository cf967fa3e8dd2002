use Rattle.std.proofs.Common.{◌≡◌, sym, ap, ◌∙◌, subst}
use Rattle.lft_tag.specs.{declared.Tag.Tag, Shifts.shifted}
use Rattle.lft_ir.specs.{Parts.Parts, declared.parts.Trigger.TheVariants.On}
use Rattle.lft_rows.specs.inner.Presence.Causes.{tag_of}
use Rattle.lft_facts.{specs.{Reasons.IsNearest, inner.Causes.StandsForName}, proofs.Near.nearest_after}
use Rattle.lft_facts.proofs.nearest.event_after.Goals as goal

pub returns-in-Some : goal.returns-in-Some
returns-in-Some c =
    let plan = c.args.plan.now in
    let key = c.key_of-key.result.0 in
    let shift = c.key_of-key.result.1 in
    let to : c.moved.result ≡ shifted (tag_of c.in-Some.cause) (shift.time, shift.steps) = c.moved.ensures ∙ ap (λ (z : Tag). shifted z (shift.time, shift.steps)) c.cause_tag.ensures in
    subst (λ (z : Tag). IsNearest plan c.args.rows.now c.args.tag (On c.args.name) z) (sym to) (nearest_after plan c.args.rows.now c.program.ensures.sound.sound c.requires.fit c.args.tag c.args.name key (shift.time, shift.steps) (subst (λ (p : Parts). StandsForName p c.args.name key (shift.time, shift.steps)) c.program.ensures.value c.key_of-key.ensures) c.in-Some.cause (c.in-Some.ensures plan c.args.rows.now c.requires.causes))

use Rattle.std.proofs.Common.{◌∙◌, ap, subst}
use Rattle.lft_tag.specs.{declared.Tag.Tag, Tags.Before, Shifts.shifted}
use Rattle.lft_rows.specs.{inner.Presence.Causes.AreCauses, Presence.Traces.TraceParts}
use Rattle.lft_check.proofs.ByTagLemmas.Absent.{led_by_none, led_later, led_by_others}
use Rattle.lft_check.proofs.by_tag.sliced.Sliced.first_led.Goals as goal

pub returns-then-place-causes : goal.returns-then-place-causes
returns-then-place-causes c h e u y i =
    let cut = c.args.self.now in
    let are : AreCauses cut.plan cut.rows c.causes-causes.result.now = subst (λ (p : TraceParts). AreCauses p.plan p.rows c.causes-causes.result.now) c.presence.ensures c.causes-causes.ensures in
    led_by_none cut.plan cut.rows c.causes-causes.result.now are c.args.name (c.args.shift.time, c.args.shift.steps) c.args.tag c.position-place.result c.position-place.ensures c.if-place-causes.true h e u i

pub returns-then-first-name : goal.returns-then-first-name
returns-then-first-name c h e u y i =
    let cut = c.args.self.now in
    let are : AreCauses cut.plan cut.rows c.causes-causes.result.now = subst (λ (p : TraceParts). AreCauses p.plan p.rows c.causes-causes.result.now) c.presence.ensures c.causes-causes.ensures in
    led_later cut.plan cut.rows c.causes-causes.result.now are c.args.name (c.args.shift.time, c.args.shift.steps) c.args.tag c.position-place.result c.position-place.ensures c.item_at-first.result c.item_at-first.ensures c.if-first-name.true h e u (subst (λ (z : Tag). Before h z) (c.moved.ensures ∙ ap (λ (z : Tag). shifted z (c.args.shift.time, c.args.shift.steps)) c.cause_tag.ensures) y) i

pub returns-else-first-name : goal.returns-else-first-name
returns-else-first-name c h e u y i =
    let cut = c.args.self.now in
    let are : AreCauses cut.plan cut.rows c.causes-causes.result.now = subst (λ (p : TraceParts). AreCauses p.plan p.rows c.causes-causes.result.now) c.presence.ensures c.causes-causes.ensures in
    led_by_others cut.plan cut.rows c.causes-causes.result.now are c.args.name (c.args.shift.time, c.args.shift.steps) c.args.tag c.position-place.result c.position-place.ensures c.item_at-first.result c.item_at-first.ensures c.if-first-name.false h e u i

use Rattle.std.proofs.Common.{◌≡◌, Some, ap, ◌∙◌, sym, subst, refl, arith}
use Rattle.lft_tag.specs.{declared.Tag.Tag, Tags.{Before, UpTo}, Shifts.shifted}
use Rattle.lft_model.specs.Presence.{stop}
use Rattle.lft_rows.{specs.{Presence.Traces.LeastTag, inner.Presence.Causes.{tag_of, IsSkip}}, proofs.PresenceLemmas.{Lists.not_true, Skips.up_to_stop}}
use Rattle.lft_check.specs.inner.ByTag.Least.{HasTag, LacksCause}
use Rattle.lft_check.proofs.ByTagLemmas.{Searched.mark_more, Walks.{walk_over, walk_past, walk_late, walk_finds, walk_goes_on}}
use Rattle.lft_check.proofs.by_tag.missing.lacked_cause.Goals as goal

pub returns-then-cause-name-clause-least : goal.returns-then-cause-name-clause-least
returns-then-cause-name-clause-least c = walk_past c.args.presence.now c.causes-causes.result.now c.causes-causes.ensures c.args.name (c.args.shift.time, c.args.shift.steps) c.args.low c.args.tags.now c.loop-place.place c.loop-place.invariant.walked c.item_at-cause.result c.item_at-cause.ensures c.if-cause-name.true

pub returns-then-is_before-clause-least : goal.returns-then-is_before-clause-least
returns-then-is_before-clause-least c =
    let here = c.item_at-cause.result in
    let cut = c.args.presence.now in
    let tag : c.moved-tag.result ≡ shifted (tag_of here) (c.args.shift.time, c.args.shift.steps) = c.moved-tag.ensures ∙ ap (λ (z : Tag). shifted z (c.args.shift.time, c.args.shift.steps)) c.cause_tag.ensures in
    let late : Before c.stop.result c.moved-tag.result = c.if-is_before.ensures.0 refl in
    let late_stop : Before (stop cut.plan cut.rows) c.moved-tag.result = subst (λ (z : Tag). Before z c.moved-tag.result) c.stop.ensures.value late in
    walk_late cut c.causes-causes.result.now c.causes-causes.ensures c.args.name (c.args.shift.time, c.args.shift.steps) c.args.low c.args.tags.now c.loop-place.place c.loop-place.invariant.walked here c.item_at-cause.ensures c.if-cause-name.false (subst (λ (z : Tag). Before (stop cut.plan cut.rows) z) tag late_stop)

pub returns-in-None-clause-least : goal.returns-in-None-clause-least
returns-in-None-clause-least c =
    let here = c.item_at-cause.result in
    let cut = c.args.presence.now in
    let tag : c.moved-tag.result ≡ shifted (tag_of here) (c.args.shift.time, c.args.shift.steps) = c.moved-tag.ensures ∙ ap (λ (z : Tag). shifted z (c.args.shift.time, c.args.shift.steps)) c.cause_tag.ensures in
    let early : UpTo c.moved-tag.result (stop cut.plan cut.rows) = subst (λ (z : Tag). UpTo c.moved-tag.result z) c.stop.ensures.value (up_to_stop c.stop.result c.moved-tag.result (λ b. not_true (c.if-is_before.ensures.1 b))) in
    subst (λ (z : Tag). LeastTag (LacksCause cut c.args.name (c.args.shift.time, c.args.shift.steps) c.args.low c.args.tags.now) (Some z)) (sym tag) (walk_finds cut c.causes-causes.result.now c.causes-causes.ensures c.args.name (c.args.shift.time, c.args.shift.steps) c.args.low c.args.tags.now c.loop-place.place c.loop-place.invariant.walked here c.item_at-cause.ensures c.if-cause-name.false (subst (λ (z : Tag). UpTo z (stop cut.plan cut.rows)) tag early) (subst (λ (z : Tag). ¬ HasTag c.args.tags.now z) tag c.in-None.ensures.found))

pub loop-place-preserved : goal.loop-place-preserved
loop-place-preserved c =
    let here = c.item_at-cause.result in
    let cut = c.args.presence.now in
    let causes = c.causes-causes.result.now in
    let place = c.loop-place.place in
    let tag : c.moved-tag.result ≡ shifted (tag_of here) (c.args.shift.time, c.args.shift.steps) = c.moved-tag.ensures ∙ ap (λ (z : Tag). shifted z (c.args.shift.time, c.args.shift.steps)) c.cause_tag.ensures in
    record {
      known = mark_more cut c.args.reaction c.args.tags.now c.loop-place.known c.mark.new.known c.in-Some.at c.moved-tag.result c.loop-place.invariant.known c.mark.ensures c.in-Some.ensures.found (c.requires.triggers c.moved-tag.result here (c.causes-causes.ensures.just.only place here c.item_at-cause.ensures) (c.if-cause-name.false, sym tag));
      walked = walk_goes_on cut causes c.causes-causes.ensures c.args.name (c.args.shift.time, c.args.shift.steps) c.args.low c.args.tags.now place c.loop-place.invariant.walked here c.item_at-cause.ensures c.skip-place.result (c.in-Some.at, c.in-Some.ensures.found ∙ ap Some tag) (subst (λ (z : Tag). IsSkip causes c.args.name (c.args.shift.time, c.args.shift.steps) z place c.skip-place.result) tag c.skip-place.ensures);
    }

pub returns-clause-least : goal.returns-clause-least
returns-clause-least c = walk_over c.args.presence.now c.causes-causes.result.now c.causes-causes.ensures c.args.name (c.args.shift.time, c.args.shift.steps) c.args.low c.args.tags.now c.loop-place.place c.loop-place.invariant.walked (omega arith)

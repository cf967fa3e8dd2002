use Rattle.std.proofs.Common.{◌<◌, ◌++◌, ◌∙◌, length, refl, rules, sym}
use Rattle.std.proofs.lemmas.Bool.{eqb-true}
use Rattle.lft_tag.specs.Tags.{after}
use Rattle.lft_monitor.proofs.{Behind.before, Judging.{accepted_rise, judged_more, judged_none}}
use Rattle.lft_monitor.proofs.judged.Judged.judge.Goals as goal

pub returns-then-is_empty-clause-stands : goal.returns-then-is_empty-clause-stands
returns-then-is_empty-clause-stands c = λ yes done is. judged_none c.args.plan.now done c.args.rows.now c.args.self.now (eqb-true (length c.args.rows.now) 0 (sym c.is_empty.ensures ∙ c.if-is_empty.true)) is

pub add_tags-requires-clause-stands : goal.add_tags-requires-clause-stands
add_tags-requires-clause-stands c = (c.requires.stands.0, c.requires.stands.1.acceptor)

pub add-requires-clause-stands : goal.add-requires-clause-stands
add-requires-clause-stands c =
    let done = c.requires.stands.0 in
    let is = c.requires.stands.1 in
    let stands = c.if-not-add_tags.ensures.stands refl done is.acceptor in
    let plan = c.args.plan.now in
    let rows = c.args.rows.now in
    let some : 0 < length rows = search rules in
    let rise = accepted_rise plan (done ++ rows) c.add_tags.new.acceptor stands in
    (done, is.past, rise, c.if-not-add_tags.ensures.unbroken refl done is.acceptor, λ x at yes. c.is_apart.ensures yes plan (done ++ rows) (after x.tag 0) stands (before plan done rows x some at rise))

pub returns-clause-stands : goal.returns-clause-stands
returns-clause-stands c = λ yes done is.
    let plan = c.args.plan.now in
    let rows = c.args.rows.now in
    let some : 0 < length rows = search rules in
    let stands = c.if-not-add_tags.ensures.stands refl done is.acceptor in
    let unbroken = c.if-not-add_tags.ensures.unbroken refl done is.acceptor in
    let rise = accepted_rise plan (done ++ rows) c.add_tags.new.acceptor stands in
    judged_more plan done rows c.args.self.now _ is some c.requires.few stands unbroken (c.in_ok-add.ensures done is.past rise unbroken (λ x at yes. c.is_apart.ensures yes plan (done ++ rows) (after x.tag 0) stands (before plan done rows x some at rise))) refl (c.in-Some.ensures done rise is.clean.reach)

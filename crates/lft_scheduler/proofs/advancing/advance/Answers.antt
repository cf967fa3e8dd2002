use Rattle.std.proofs.Common.{◌≡◌, ◌∙◌, ℕ, List, Option, None, Contains, subst, arith, rules}
use Rattle.lft_tag.specs.{declared.Tag.Tag, Tags.{Before, UpTo}}
use Rattle.lft_ir.specs.declared.steps.row.Row.{Row}
use Rattle.lft_queue.specs.Pending.{Pending}
use Rattle.lft_scheduler.specs.inner.{Turns.NonePending, Waits.IsFoundUpTo, Telling.TriggeredByQueue, Agendas.{MayAdvance, IsReached}}
use Rattle.lft_scheduler.proofs.{Told.none_open_there, NextTags.{some_number, later_event, reached_current, finished_current, moved_on, nearer}}
use Rattle.lft_scheduler.proofs.FirstFirings.{first_from, none_skipped}
use Rattle.lft_scheduler.proofs.advancing.advance.Goals as goal

pub returns-then-is_some-clause-current : goal.returns-then-is_some-clause-current
returns-then-is_some-clause-current c = λ t may start.
    let plan = c.args.plan.now in
    let is = c.tags.invariant.reached t may start in
    let s = some_number c.first.result (search rules) in
    reached_current plan c.keeps.ensures.sound t c.args.stop may c.tags.reached c.tags.turn c.tags.queue is s.0 (c.first.ensures.ready plan.program s.0 is.turn_is.graph s.1).ready.waiting

pub next_tag-requires : goal.next_tag-requires
next_tag-requires c = record { later = λ e k. later_event c.tags.reached c.tags.queue e (subst (λ (q : List Pending). Contains q e) c.drop_until.ensures k) }

pub returns-in_default-clause-current : goal.returns-in_default-clause-current
returns-in_default-clause-current c = λ t may start.
    let plan = c.args.plan.now in
    let good = c.keeps.ensures.sound in
    let is = c.tags.invariant.reached t may start in
    let none : c.first.result ≡ None = search rules in
    let over : NonePending c.tags.turn.phases = c.first.ensures.over plan.program is.turn_is.graph none (none_open_there plan good t may.so_far may.quiet c.tags.reached c.tags.turn is.turn_is may.none_open) in
    finished_current plan good t c.args.stop may c.tags.reached c.tags.turn c.tags.queue is over c.drop_until.new.self c.drop_until.ensures c.next_tag.result (c.next_tag.ensures.covers plan.program c.tags.invariant.firings) (search rules)

pub tell-requires-clause-firings : goal.tell-requires-clause-firings
tell-requires-clause-firings c =
    let program = c.args.plan.now.program in
    let fs = c.tags.firings in
    let is = c.tags.invariant.firings in
    let q = c.drop_until.new.self in
    let between = c.in-Some.ensures.between in
    let covers = subst (λ (o : Option Tag). (h : Tag) (r : ℕ) → TriggeredByQueue program q c.args.stop h r → Before c.tags.reached h → UpTo h c.args.stop → IsFoundUpTo o h) c.in-Some.is (c.next_tag.ensures.covers program is) in
    first_from program c.tags.reached c.in-Some.next fs is between.0 (none_skipped program q c.args.stop c.tags.reached c.in-Some.next fs is between.1 covers)

pub tags-preserved : goal.tags-preserved
tags-preserved c = record {
  phases = c.tell.ensures.told.count ∙ c.tags.invariant.phases;
  time = (let b = c.in-Some.ensures.between in let s = c.requires.stop in search arith);
  firings = c.tell.ensures.firings;
  reached = λ t may start. reached t may start;
}
  where
    reached : (t : List Row) → MayAdvance c.args.plan.now t c.args.stop → IsReached c.args.plan.now t c.args.from c.args.stop c.args.turn.now c.args.queue.now → IsReached c.args.plan.now t c.in-Some.next c.args.stop c.tell.new.turn c.drop_until.new.self
    reached t may start =
        let plan = c.args.plan.now in
        let good = c.keeps.ensures.sound in
        let is = c.tags.invariant.reached t may start in
        let none : c.first.result ≡ None = search rules in
        let over : NonePending c.tags.turn.phases = c.first.ensures.over plan.program is.turn_is.graph none (none_open_there plan good t may.so_far may.quiet c.tags.reached c.tags.turn is.turn_is may.none_open) in
        moved_on plan good t c.args.stop may c.tags.reached c.tags.turn c.tags.queue is over c.drop_until.new.self c.drop_until.ensures c.next_tag.result (c.next_tag.ensures.covers plan.program c.tags.invariant.firings) c.in-Some.next c.tell.new.turn c.in-Some.is c.in-Some.ensures.between c.tell.ensures.told

pub tags-smaller : goal.tags-smaller
tags-smaller c = nearer c.tags.reached c.in-Some.next c.args.stop (omega arith) c.in-Some.ensures.between

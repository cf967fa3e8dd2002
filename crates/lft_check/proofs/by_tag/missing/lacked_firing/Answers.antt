use Rattle.std.proofs.Common.{◌≡◌, Option, ap, sym, subst, arith}
use Rattle.lft_tag.specs.declared.Tag.{Tag}
use Rattle.lft_model.specs.Presence.{stop}
use Rattle.lft_rows.specs.Presence.Traces.{LeastTag}
use Rattle.lft_check.specs.inner.ByTag.Least.{LacksFiring}
use Rattle.lft_check.proofs.ByTagLemmas.{Searched.mark_more, Firings.{walk_none, walk_fires, walk_finds, walk_goes_on, walk_ends}}
use Rattle.lft_check.proofs.by_tag.missing.lacked_firing.Goals as goal

pub returns-in_err-time-clause-least : goal.returns-in_err-time-clause-least
returns-in_err-time-clause-least c = subst (λ (o : Option Tag). LeastTag (LacksFiring c.args.presence.now c.args.timer.now c.args.low c.args.tags.now) o) (sym c.from_residual.ensures) (walk_none c.args.presence.now c.args.timer.now c.args.low c.args.tags.now c.in_err-time.ensures)

pub returns-in-None-clause-least : goal.returns-in-None-clause-least
returns-in-None-clause-least c =
    let cut = c.args.presence.now in
    let last : c.stop-last.result.time ≡ (stop cut.plan cut.rows).time = ap (λ (z : Tag). z.time) c.stop-last.ensures.value in
    walk_finds cut c.args.timer.now c.args.low c.args.tags.now c.loop-time.time c.loop-time.invariant.walked (omega arith) c.in-None.ensures.found

pub returns-then-timer-eq0-clause-known : goal.returns-then-timer-eq0-clause-known
returns-then-timer-eq0-clause-known c =
    let cut = c.args.presence.now in
    mark_more cut c.args.reaction c.args.tags.now c.loop-time.known c.mark.new.known c.in-Some.place (record { time = c.loop-time.time; micro = 0 }) c.loop-time.invariant.known c.mark.ensures c.in-Some.ensures.found (c.requires.triggers (record { time = c.loop-time.time; micro = 0 }) (walk_fires cut c.args.timer.now c.args.low c.args.tags.now c.loop-time.time c.loop-time.invariant.walked))

pub loop-time-preserved : goal.loop-time-preserved
loop-time-preserved c =
    let cut = c.args.presence.now in
    record {
      known = mark_more cut c.args.reaction c.args.tags.now c.loop-time.known c.mark.new.known c.in-Some.place (record { time = c.loop-time.time; micro = 0 }) c.loop-time.invariant.known c.mark.ensures c.in-Some.ensures.found (c.requires.triggers (record { time = c.loop-time.time; micro = 0 }) (walk_fires cut c.args.timer.now c.args.low c.args.tags.now c.loop-time.time c.loop-time.invariant.walked));
      walked = walk_goes_on cut c.args.timer.now c.args.low c.args.tags.now c.loop-time.time c.loop-time.invariant.walked c.if-timer-eq0.false (c.in-Some.place, c.in-Some.ensures.found);
    }

pub returns-clause-least : goal.returns-clause-least
returns-clause-least c =
    let cut = c.args.presence.now in
    let last : c.stop-last.result.time ≡ (stop cut.plan cut.rows).time = ap (λ (z : Tag). z.time) c.stop-last.ensures.value in
    walk_ends cut c.args.timer.now c.args.low c.args.tags.now c.loop-time.time c.loop-time.invariant.walked (omega arith)

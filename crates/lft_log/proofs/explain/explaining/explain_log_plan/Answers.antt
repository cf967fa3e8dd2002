use Rattle.std.proofs.Common.{ℕ, List, [], Err, inl, subst}
use Rattle.std.{specs.Io.KnownBytes.Appends, proofs.KnownBytes.{Consumes-nil, Keeps-refl}}
use Rattle.lft_model.specs.Plans.{PlanParts}
use Rattle.lft_load.specs.Written.{AppendsFront}
use Rattle.lft_log.specs.Follow.Refusals.{FollowRefusalUnder.by_reading, ReadRefusal.by_outside}
use Rattle.lft_log.specs.{Explain.{Explained.IsLack, Refusals.ExplainLogRefusalUnder.by_log}, inner.Explain.Explained.{IsLongKept, IsTextBehind}}
use Rattle.lft_log.specs.declared.explain.explaining.Explained.{Explained}
use Rattle.lft_log.proofs.{FollowLemmas.Reaching.{none_written, told_all}, ExplainLemmas.Writing.{line_alone, line_and_front, line_and_text}}
use Rattle.lft_log.proofs.explain.explaining.explain_log_plan.Goals as goal

pub returns-in_default-clause-refused : goal.returns-in_default-clause-refused
returns-in_default-clause-refused g c = by_log (by_reading (by_outside (inl (c.no_memory.ensures.part, c.no_memory.ensures.number))) (Keeps-refl (g.W.Write.contents c.args.out.now)))

pub returns-in_default-clause-kept : goal.returns-in_default-clause-kept
returns-in_default-clause-kept g c = λ other. Keeps-refl (g.W.Write.contents c.args.out.now)

pub returns-in_default-clause-every : goal.returns-in_default-clause-every
returns-in_default-clause-every g c = ([], Consumes-nil (g.R.Read.remaining c.args.reader.now), none_written {X = Explained} (Err c.no_memory.result) c.args.plan [] c.args.following.every (g.E.Write.contents c.args.errors.now))

pub returns-in-Err-clause-refused : goal.returns-in-Err-clause-refused
returns-in-Err-clause-refused g c = by_log c.in-Err.ensures.refused

pub returns-in-Err-text_behind-clause-explained : goal.returns-in-Err-text_behind-clause-explained
returns-in-Err-text_behind-clause-explained g c =
    let ended = c.in-Ok-follow_plan.ended in
    let lack = subst (λ (p : PlanParts). IsLack (IsLongKept p c.follow_plan.new.kept) ended.told c.in-Err-text_behind.why) c.in-Ok.ensures c.in-Err-text_behind.ensures.lack in
    line_alone c.args.plan c.args.following.until c.args.following.whole c.args.all c.new.result c.follow_plan.new.kept _ _ _ _ ended c.in-Ok-follow_plan.ensures.followed c.new.ensures.items c.in-Err-text_behind.why lack

pub returns-in-Ok-write_text-clause-explained : goal.returns-in-Ok-write_text-clause-explained
returns-in-Ok-write_text-clause-explained g c =
    let ended = c.in-Ok-follow_plan.ended in
    let text = c.in-Ok-text_behind.text.items in
    let mid = g.W.Write.contents c.follow_plan.new.out in
    let new = g.W.Write.contents c.write_text.new.out in
    let written = subst (λ (x : List ℕ). Appends mid new x) c.as_slice.ensures.value c.in-Ok-write_text.ensures.whole in
    let behind = subst (λ (p : PlanParts). IsTextBehind c.args.all p c.follow_plan.new.kept ended text) c.in-Ok.ensures c.in-Ok-text_behind.ensures.text in
    line_and_text c.args.plan c.args.following.until c.args.following.whole c.args.all c.new.result c.follow_plan.new.kept _ _ _ mid ended c.in-Ok-follow_plan.ensures.followed c.new.ensures.items new text behind written

pub returns-clause-refused : goal.returns-clause-refused
returns-clause-refused g c =
    let ended = c.in-Ok-follow_plan.ended in
    let text = c.in-Ok-text_behind.text.items in
    let mid = g.W.Write.contents c.follow_plan.new.out in
    let new = g.W.Write.contents c.write_text.new.out in
    let front = subst (λ (x : List ℕ). AppendsFront mid new x) c.as_slice.ensures.value c.in-Err-write_text.ensures.front in
    let behind = subst (λ (p : PlanParts). IsTextBehind c.args.all p c.follow_plan.new.kept ended text) c.in-Ok.ensures c.in-Ok-text_behind.ensures.text in
    line_and_front c.args.plan c.args.following.until c.args.following.whole c.args.all c.new.result c.follow_plan.new.kept _ _ _ mid ended c.in-Ok-follow_plan.ensures.followed c.new.ensures.items c.args.path.now new text c.in-Err-write_text.fault c.in-Err-write_text.ensures.part c.in-Err-write_text.ensures.number behind front

pub returns-clause-kept : goal.returns-clause-kept
returns-clause-kept g c = λ other. absurd (other c.in-Err-write_text.ensures.part)

pub returns-clause-every : goal.returns-clause-every
returns-clause-every g c =
    let x = c.in-Ok-follow_plan.ensures.every in
    (x.0, x.1, told_all {X = Explained} (Err c.in-Err-write_text.fault) c.args.plan x.0 c.args.following.every _ _ x.2)

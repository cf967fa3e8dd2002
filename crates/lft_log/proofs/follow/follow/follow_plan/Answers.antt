use Rattle.std.proofs.Common.{◌∙◌, [], Err, inl, ap}
use Rattle.std.proofs.KnownBytes.{Consumes-nil, Keeps-refl}
use Rattle.lft_ir.specs.Parts.{Parts}
use Rattle.lft_log.specs.{Follow.{Lines.line_of_log, Refusals.{FollowRefusalUnder.by_reading, ReadRefusal.by_outside}}, declared.told.Ended.Ended}
use Rattle.lft_log.proofs.FollowLemmas.{Reaching.{none_written, told_all}, Refusing.unwritten}
use Rattle.lft_driver.proofs.Behind.{unwritten_kept}
use Rattle.lft_log.proofs.follow.follow.follow_plan.Goals as goal

pub returns-in_default-clause-refused : goal.returns-in_default-clause-refused
returns-in_default-clause-refused g c = by_reading (by_outside (inl (c.no_memory.ensures.part, c.no_memory.ensures.number))) (Keeps-refl (g.W.Write.contents c.args.out.now))

pub returns-in_default-clause-kept : goal.returns-in_default-clause-kept
returns-in_default-clause-kept g c = λ other. Keeps-refl (g.W.Write.contents c.args.out.now)

pub returns-in_default-clause-every : goal.returns-in_default-clause-every
returns-in_default-clause-every g c = ([], Consumes-nil (g.R.Read.remaining c.args.reader.now), none_written {X = Ended} (Err c.no_memory.result) c.args.plan [] c.args.following.every (g.E.Write.contents c.args.errors.now))

pub returns-in-Err-clause-refused : goal.returns-in-Err-clause-refused
returns-in-Err-clause-refused g c = by_reading c.in-Err.ensures.refused (Keeps-refl (g.W.Write.contents c.args.out.now))

pub returns-in-Err-clause-kept : goal.returns-in-Err-clause-kept
returns-in-Err-clause-kept g c = λ other. Keeps-refl (g.W.Write.contents c.args.out.now)

pub returns-clause-refused : goal.returns-clause-refused
returns-clause-refused g c =
    let told = c.in-Ok-read_log.ended.told in
    let read = c.in-Ok-read_log.ensures.read in
    let same = c.program.ensures.value ∙ c.in-Ok-read_log.ensures.program in
    unwritten c.args.plan c.args.path.now c.args.following.until c.args.following.whole read.0 _ _ _ _ told _ c.in-Err-report.fault read.1 (ap (λ (p : Parts). line_of_log p told) same) c.in-Err-report.ensures.refused

pub returns-clause-kept : goal.returns-clause-kept
returns-clause-kept g c = unwritten_kept _ _ _ c.in-Err-report.fault c.in-Err-report.ensures.refused

pub returns-clause-every : goal.returns-clause-every
returns-clause-every g c =
    let x = c.in-Ok-read_log.ensures.every in
    (x.0, x.1, told_all {X = Ended} (Err c.in-Err-report.fault) c.args.plan x.0 c.args.following.every _ _ x.2)

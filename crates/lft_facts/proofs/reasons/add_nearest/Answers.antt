use Rattle.std.proofs.Common.{Option, IfSome, subst}
use Rattle.std.proofs.lemmas.Result.{on_ok_weaker}
use Rattle.lft_tag.specs.declared.Tag.{Tag}
use Rattle.lft_ir.specs.declared.parts.Trigger.TheVariants.{On}
use Rattle.lft_facts.{specs.Reasons.IsNearest, proofs.Added.{adds_one, adds_both}}
use Rattle.lft_facts.specs.declared.facts.Fact.TheVariants as fact
use Rattle.lft_facts.specs.declared.facts.Reason.TheVariants as reason
use Rattle.lft_facts.proofs.reasons.add_nearest.Goals as goal

pub returns-in_ok-push-in-Some : goal.returns-in_ok-push-in-Some
returns-in_ok-push-in-Some c =
    let plan = c.args.plan.now in
    let t = c.args.rows.now in
    let nearest : IsNearest plan t c.args.tag (On c.args.name) c.in-Some.at = subst (λ (o : Option Tag). IfSome o (IsNearest plan t c.args.tag (On c.args.name))) c.in-Some.is c.requires.nearest in
    on_ok_weaker c.add_event.result (λ told b p. adds_both plan t c.args.facts.now.items c.push.new.self.items c.add_event.new.facts.items (adds_one plan t c.args.facts.now.items c.push.new.self.items (fact.Reason (reason.Nearest c.args.tag (On c.args.name) c.in-Some.at)) c.in_ok-push-in-Some.ensures.items nearest p) (told b)) c.add_event.ensures

use Rattle.std.proofs.Common.{◌≡◌, Option, Some, None, refl, subst}
use Rattle.std.proofs.lemmas.Bool.{false≢true}
use Rattle.lft_tag.specs.{declared.Tag.Tag, Tags.Before}
use Rattle.lft_log.{specs.inner.Told.IsLatestTag, proofs.Inputs.{latest_higher, latest_stays}}
use Rattle.lft_log.proofs.telling.latest_with.Goals as goal

pub returns-in-None : goal.returns-in-None
returns-in-None c = λ t is. latest_higher t c.args.row None (subst (λ (o : Option Tag). IsLatestTag t o) c.in-None.is is) (λ g e. absurd (cc e))

pub returns-then-is_before : goal.returns-then-is_before
returns-then-is_before c = λ t is. latest_higher t c.args.row (Some c.in-Some.high) (subst (λ (o : Option Tag). IsLatestTag t o) c.in-Some.is is) (λ g e. let same : c.in-Some.high ≡ g = cc e in subst (λ (h : Tag). Before h c.args.row.tag) same (c.if-is_before.ensures.0 refl))

pub returns-else-is_before : goal.returns-else-is_before
returns-else-is_before c = λ t is. latest_stays t c.args.row c.in-Some.high (subst (λ (o : Option Tag). IsLatestTag t o) c.in-Some.is is) (λ b. false≢true (c.if-is_before.ensures.1 b))

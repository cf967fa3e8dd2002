use Rattle.std.proofs.Common.{refl, subst}
use Rattle.lft_check.specs.Verdicts.{IsVerdict}
use Rattle.lft_coverage.proofs.driver.covered.cover_rows.Goals as goal

pub count_rows-requires : goal.count_rows-requires
count_rows-requires g c =
    let v = subst (IsVerdict c.args.plan.now c.args.rows.now) c.in-Ok-Accepted.field-0-is c.in-Ok-Accepted.ensures.verdict in
    (refl, (refl, (c.requires.fit, (c.args.plan.now, v.legal.rows))))

pub returns-in-Ok-Broken-clause-covered : goal.returns-in-Ok-Broken-clause-covered
returns-in-Ok-Broken-clause-covered g c = subst (IsVerdict c.args.plan.now c.args.rows.now) c.in-Ok-Broken.field-0-is c.in-Ok-Broken.ensures.verdict

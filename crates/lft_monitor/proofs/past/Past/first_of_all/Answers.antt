use Rattle.std.proofs.Common.{◌++◌, [], sym, subst}
use Rattle.lft_model.specs.{declared.breach.Breach.Breach, Breaches.First}
use Rattle.lft_monitor.proofs.Ended.{first_of_tags}
use Rattle.lft_monitor.proofs.past.Past.first_of_all.Goals as goal

pub returns : goal.returns
returns c = λ t is keeps.
    let plan = c.args.plan.now in
    let rows = c.args.rows.now in
    subst (λ (b : Breach). First plan (t ++ rows) b) (sym c.found_of.ensures) (first_of_tags plan (t ++ rows) _ c.in_ok-breach.breach (c.in_ok-breach.ensures t [] is (λ i x e. absurd (cc))) keeps)

use Rattle.std.proofs.Common.{◌≡◌, arith}
use Rattle.std.proofs.lemmas.Bool.{eqb-true, eq-eqb}
use Rattle.lft_model.proofs.Firings.{fires_again, again_fires}
use Rattle.lft_model.proofs.timers.fires.Goals as goal

pub returns-else-timer-eq0 : goal.returns-else-timer-eq0
returns-else-timer-eq0 c =
    let n : ¬ (c.args.timer.now.period ≡ 0) = (λ e. omega (arith, c.if-timer-eq0.false, e)) in
    (λ e. fires_again c.args.timer.now c.args.tag (omega arith) (omega arith) n (eqb-true _ _ e), λ f. eq-eqb _ _ (again_fires c.args.timer.now c.args.tag n f))

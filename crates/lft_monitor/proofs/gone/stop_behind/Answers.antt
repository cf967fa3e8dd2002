use Rattle.std.proofs.Common.{refl, ◌∙◌, sym, subst}
use Rattle.std.proofs.lemmas.Bool.{false≢true}
use Rattle.lft_tag.specs.{declared.Tag.Tag, Tags.Before}
use Rattle.lft_monitor.proofs.Stops.{stop_keeps, stop_lower}
use Rattle.lft_monitor.proofs.gone.stop_behind.Goals as goal

pub returns-then-not-is_stop : goal.returns-then-not-is_stop
returns-then-not-is_stop c = λ plan t is. stop_keeps plan t c.args.row c.args.last is (λ e. absurd (false≢true (c.if-not-is_stop.ensures.1 e)))

pub returns-then-is_before : goal.returns-then-is_before
returns-then-is_before c = λ plan t is. c.after-asked.ensures ∙ stop_lower plan t c.args.row c.args.last is (c.if-not-is_stop.ensures.0 refl) (subst (λ (g : Tag). Before g c.args.last) c.after-asked.ensures (c.if-is_before.ensures.0 refl))

pub returns-else-is_before : goal.returns-else-is_before
returns-else-is_before c = λ plan t is. stop_keeps plan t c.args.row c.args.last is (λ e b. false≢true (c.if-is_before.ensures.1 (subst (λ (g : Tag). Before g c.args.last) (sym c.after-asked.ensures) b)))

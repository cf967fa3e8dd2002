use Rattle.std.proofs.Common.{◌≡◌, sym, ◌∙◌, subst}
use Rattle.std.proofs.lemmas.Bool.{false≢true}
use Rattle.lft_tag.specs.{declared.Tag.Tag, Tags.{Before, after}}
use Rattle.lft_scheduler.proofs.Stops.{stop_now, stop_late, stop_unasked}
use Rattle.lft_scheduler.proofs.stopping.stop_with.Goals as goal

pub returns-then-is_before-clause-stop : goal.returns-then-is_before-clause-stop
returns-then-is_before-clause-stop c = λ plan t w r e.
    let at : c.after-asked.result ≡ after c.args.tag 0 = c.after-asked.ensures in
    let b : Before c.after-asked.result c.args.stop = c.is_before.ensures.0 c.if-is_before.true in
    at ∙ stop_now plan t w c.args.tag r c.args.steps.now (c.asks_stop.ensures.0 c.if-asks_stop.true) (subst (λ (k : Tag). Before (after c.args.tag 0) k) e (subst (λ (k : Tag). Before k c.args.stop) at b))

pub returns-else-is_before-clause-stop : goal.returns-else-is_before-clause-stop
returns-else-is_before-clause-stop c = λ plan t w r e.
    let at : c.after-asked.result ≡ after c.args.tag 0 = c.after-asked.ensures in
    e ∙ stop_late plan t w c.args.tag r c.args.steps.now (λ b. false≢true (sym c.if-is_before.false ∙ c.is_before.ensures.1 (subst (λ (k : Tag). Before k c.args.stop) (sym at) (subst (λ (k : Tag). Before (after c.args.tag 0) k) (sym e) b))))

pub returns-else-asks_stop-clause-stop : goal.returns-else-asks_stop-clause-stop
returns-else-asks_stop-clause-stop c = λ plan t w r e. e ∙ stop_unasked plan t w c.args.tag r c.args.steps.now (λ a. false≢true (sym c.if-asks_stop.false ∙ c.asks_stop.ensures.1 a))

use Rattle.std.proofs.Common.{◌++◌, List, None, map, take, sym, subst, arith, append-nil}
use Rattle.std.proofs.lemmas.List.{take_all}
use Rattle.lft_ir.specs.declared.steps.row.{Row.Row, Step.Step}
use Rattle.lft_model.specs.Recorded.{run_row}
use Rattle.lft_scheduler.{specs.inner.Events.HasEvents, proofs.Steps.{step_more, end_fed}}
use Rattle.lft_scheduler.proofs.events.feeding.feed.Goals as goal

pub loop-at-init : goal.loop-at-init
loop-at-init c = λ t w r u is. subst (λ (rs : List Row). HasEvents c.args.plan.now rs c.args.tag c.args.last None c.args.queue.now) (sym (append-nil t)) is

pub loop-at-preserved : goal.loop-at-preserved
loop-at-preserved c = λ t w r u is.
    step_more c.args.plan.now t w c.args.tag r c.args.steps.now c.loop-at.at c.item_at.result c.args.tag c.args.last c.in_ok-found.found c.feed_step.new.queue c.item_at.ensures (c.in_ok-found.ensures (t ++ map (run_row w c.args.tag r) (take c.loop-at.at c.args.steps.now)) w r u (c.loop-at.invariant t w r u is))

pub returns : goal.returns
returns c = λ t w r u is. end_fed c.args.plan.now t w c.args.tag r c.args.steps.now c.args.tag c.args.last c.loop-at.found c.loop-at.queue (subst (λ (ss : List Step). HasEvents c.args.plan.now (t ++ map (run_row w c.args.tag r) ss) c.args.tag c.args.last c.loop-at.found c.loop-at.queue) (take_all c.loop-at.at c.args.steps.now (let z = c.loop-at-test.false in omega arith)) (c.loop-at.invariant t w r u is))

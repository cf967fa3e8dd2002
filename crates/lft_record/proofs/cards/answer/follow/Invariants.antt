use Rattle.std.proofs.Common.{◌≡◌, map, take}
use Rattle.lft_record.specs.Scripts.{step_done}
use Rattle.lft_record.proofs.cards.answer.follow.Given as goal

abbrev pub invariant-loop-step : goal.invariant-loop-step
invariant-loop-step l = l.steps.items ≡ map (step_done l.tag l.state l.reads) (take l.step-index l.script.steps)

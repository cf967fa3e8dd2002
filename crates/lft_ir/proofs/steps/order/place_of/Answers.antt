use Rattle.std.proofs.Common.{rules, ◌≡◌, ◌-◌, ◌<◌, ◌≤◌, length, true, refl, arith}
use Rattle.lft_ir.{specs.declared.{parts.Value.TheVariants.Bare, steps.externals.Event.Event}, proofs.StepsLemmas.Placing.{belongs, one_more, told}}
use Rattle.lft_ir.proofs.steps.order.place_of.Goals as goal

abbrev none : Event
none = record { tag = record { time = 0; micro = 0 }; action = 0; value = Bare }

pub returns-then-comes_before-clause-some : goal.returns-then-comes_before-clause-some
returns-then-comes_before-clause-some c = belongs c.args.events.now c.args.event c.loop-place.place none c.loop-place-test.true c.loop-place.invariant.0 c.requires (search rules) c.loop-place.invariant.1

pub returns-then-not-comes_before-clause-none : goal.returns-then-not-comes_before-clause-none
returns-then-not-comes_before-clause-none c = told c.args.events.now c.args.event c.loop-place.place none c.loop-place-test.true c.loop-place.invariant.0 (search rules) (search rules)

pub loop-place-preserved : goal.loop-place-preserved
loop-place-preserved c = (let l = c.loop-place.invariant.0 in omega arith, one_more c.args.events.now c.args.event c.loop-place.place none c.loop-place-test.true c.loop-place.invariant.0 (search rules) c.loop-place.invariant.1)

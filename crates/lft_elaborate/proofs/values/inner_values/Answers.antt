use Rattle.std.proofs.Common.{◌<◌, Some, map, arith, rules, w64}
use Rattle.std.specs.Prelude.{FitsSigned}
use Rattle.lft_elaborate.{specs.inner.Values.value_inside, proofs.Valuing.{given_read, number_pushed}}
use Rattle.lft_elaborate.proofs.values.inner_values.Goals as goal

pub loop-parameter-preserved : goal.loop-parameter-preserved
loop-parameter-preserved c =
    let given = c.args.given in
    let gs = given.child.now.given.items in
    let long = c.in_ok-table.ensures.long in
    let ok = c.in_ok-table.table.ok.0 in
    let low : c.loop-parameter.parameter < c.len-count.result = c.loop-parameter-test.true in
    let fits : FitsSigned w64 c.in_ok-value.value = search rules in
    let is = given_read c.in_ok-table.table.items gs c.loop-parameter.parameter c.index.result.now (omega (arith, long, ok, low)) c.index.ensures (c.in_ok-table.ensures.given c.loop-parameter.parameter low) in
    number_pushed (value_inside given.outer.now (map (λ v. Some v) given.values.now) gs c.args.inner.now) c.loop-parameter.values.items c.push.new.self.items c.in_ok-value.value c.loop-parameter.parameter fits c.in_ok-push.ensures.items c.loop-parameter.invariant (c.in_ok-value.ensures.found is)

use Rattle.std.proofs.Common.{◌<◌, [], length, string_bytes, sym, ap, ◌∙◌, arith}
use Rattle.lft_resolve.specs.inner.Tests.{texts}
use Rattle.lft_classes.proofs.Building.{pushed}
use Rattle.lft_classes.proofs.making.given_names.Goals as goal

pub loop-assignment-preserved : goal.loop-assignment-preserved
loop-assignment-preserved c =
    let within : c.loop-assignment.assignment-index < length c.args.given.now = omega arith in
    ap texts c.in_ok-push.ensures.items ∙ pushed (λ t. t.now) (λ a. string_bytes a.name.text) [] c.loop-assignment.names.items c.args.given.now c.loop-assignment.assignment-index _ c.assignment-item.result within (sym c.assignment-item.is) c.as_str.ensures.value c.loop-assignment.invariant

use Rattle.std.proofs.Common.{◌<◌, [], length, refl, sym, ap, ◌∙◌, arith}
use Rattle.lft_resolve.specs.inner.Tests.{texts}
use Rattle.lft_classes.proofs.Building.{pushed}
use Rattle.lft_classes.proofs.scopes.names_of.Goals as goal

pub loop-meaning-preserved : goal.loop-meaning-preserved
loop-meaning-preserved c =
    let within : c.loop-meaning.meaning-index < length c.args.meanings.now = omega arith in
    ap texts c.in_ok-push.ensures.items ∙ pushed (λ t. t.now) (λ m. m.name.now) [] c.loop-meaning.names.items c.args.meanings.now c.loop-meaning.meaning-index _ c.meaning-item.result within (sym c.meaning-item.is) refl c.loop-meaning.invariant

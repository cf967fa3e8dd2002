use Rattle.std.proofs.Common.{◌≡◌, ap, subst, ◌∙◌}
use Rattle.lft_resolve.{specs.inner.{Places.IsIndexOf, References.reactor_trees, Tests.texts}, proofs.NamedReactors.named}
use Rattle.lft_resolve.proofs.file.ReactorTable.of.Goals as goal

pub returns : goal.returns
returns c =
    let names : texts c.deref.result.now ≡ named (reactor_trees c.args.reactors.now) = ap texts c.deref.ensures.value ∙ c.in_ok-names.ensures in
    record {
      names = subst (IsIndexOf c.in_ok-of.field-0) names c.in_ok-of.ensures;
      numbers = c.in_ok-numbers_of.ensures;
      owns = c.in_ok-owns_of.ensures;
    }

use Rattle.std.proofs.Common.{sym, subst}
use Rattle.lft_classes.{specs.inner.Scopes.{HasImports, HasMeaning, MeansAt}, proofs.Meanings.scope_has}
use Rattle.lft_classes.proofs.scopes.scope_of.Goals as goal

pub returns : goal.returns
returns c = record {
  meant = λ files at own. record {
    is = scope_has (MeansAt files c.args.number) _ _ c.in_ok-scope.ensures (c.in_ok-push_imports.ensures.meant files at own (c.in_ok-meanings.ensures.meant files own));
    own = λ q d is. subst (λ ms. HasMeaning ms q d.number) (sym c.in_ok-scope.ensures.meanings) (c.in_ok-push_imports.ensures.kept q d.number (c.in_ok-meanings.ensures.all files own q d is));
    imports = subst (HasImports files c.args.number) (sym c.in_ok-scope.ensures.meanings) (c.in_ok-push_imports.ensures.all files at own);
    once = c.in_ok-refuse_twice.ensures.once;
  };
}

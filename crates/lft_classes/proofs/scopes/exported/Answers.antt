use Rattle.std.proofs.Common.{◌≡◌, Some, option_copied, slice_get, sym, ap, ◌∙◌}
use Rattle.lft_resolve.proofs.Placing.{lent}
use Rattle.lft_classes.{specs.inner.Scopes.IsOwnAt, proofs.Meanings.found_in}
use Rattle.lft_classes.proofs.scopes.exported.Goals as goal

pub returns-in-Some-get : goal.returns-in-Some-get
returns-in-Some-get c =
    let at : slice_get c.args.own.now c.args.target ≡ Some c.in-Some.scope.now = sym (lent c.args.own.now c.args.target c.get.result c.get.ensures.lookup) ∙ ap option_copied c.in-Some.is in
    record { some = (c.if-not-class.true, λ files all. (found_in (IsOwnAt files c.args.target) c.in-Some.scope.now c.args.name.now c.in-Some-get.class (all.each c.args.target c.in-Some.scope.now at).is (sym c.get-2.ensures ∙ c.in-Some-get.is)).1.0) }

use Rattle.std.proofs.Common.{◌≡◌, Some, None, inl, option_copied, slice_get, sym, ap, subst, ◌∙◌}
use Rattle.lft_lists.proofs.Places.{same_some}
use Rattle.lft_resolve.proofs.Placing.{lent}
use Rattle.lft_classes.{specs.{declared.scopes.Scope.Scope, inner.Scopes.{EachMeans, HasMeaning, MeansAt}}, proofs.Meanings.own_means}
use Rattle.lft_classes.proofs.scopes.own_meanings.Goals as goal

pub returns-clause-meant : goal.returns-clause-meant
returns-clause-meant c files are =
    let own = c.args.own.now in
    let scope = c.in-Some.scope.now in
    let at : slice_get own c.args.number ≡ Some scope = sym (lent own c.args.number c.get.result c.get.ensures.lookup) ∙ ap option_copied c.in-Some.is in
    subst (EachMeans (MeansAt files c.args.number)) (sym (c.in_ok-meanings.ensures.items ∙ c.deref.ensures.value)) (λ i m there. inl ((are.each c.args.number scope at).is.each i m there))

pub returns-clause-all : goal.returns-clause-all
returns-clause-all c files are q d is =
    let own = c.args.own.now in
    let scope = c.in-Some.scope.now in
    let at : slice_get own c.args.number ≡ Some scope = sym (lent own c.args.number c.get.result c.get.ensures.lookup) ∙ ap option_copied c.in-Some.is in
    let has = own_means files own c.args.number q d are is in
    let same : has.0 ≡ scope = same_some (slice_get own c.args.number) has.0 scope has.1 at in
    subst (λ ms. HasMeaning ms q d.number) (sym (c.in_ok-meanings.ensures.items ∙ c.deref.ensures.value)) (subst (λ (s : Scope). HasMeaning s.meanings.items q d.number) same has.2)

pub returns-in_default-clause-all : goal.returns-in_default-clause-all
returns-in_default-clause-all c files are q d is =
    let own = c.args.own.now in
    let none : slice_get own c.args.number ≡ None = sym (lent own c.args.number c.get.result c.get.ensures.lookup) ∙ ap option_copied c.in_default.is in
    let has = own_means files own c.args.number q d are is in
    absurd (let e = sym none ∙ has.1 in cc)

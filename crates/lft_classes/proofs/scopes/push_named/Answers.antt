use Rattle.std.proofs.Common.{◌≡◌, Some, option_map, string_bytes, refl, sym, ap, subst, ◌∙◌}
use Rattle.lft_lists.proofs.Places.{Some_same}
use Rattle.lft_classes.{specs.inner.Scopes.{EachMeans, HasMeaning, IsOwnAt}, proofs.Meanings.{has_last, has_push, means_push}}
use Rattle.lft_classes.proofs.scopes.push_named.Goals as goal

pub returns-clause-own : goal.returns-clause-own
returns-clause-own c files is all = subst (EachMeans (IsOwnAt files c.args.class.file)) (sym c.in_ok-push.ensures.items) (means_push (IsOwnAt files c.args.class.file) c.args.meanings.now.items _ all (record { stands = is; in_file = refl; has_name = ap (option_map (λ n. string_bytes n.text)) c.in-Some.is ∙ ap Some (sym c.as_str.ensures.value) }, refl))

pub returns-clause-kept : goal.returns-clause-kept
returns-clause-kept c q n has = subst (λ ms. HasMeaning ms q n) (sym c.in_ok-push.ensures.items) (has_push c.args.meanings.now.items _ q n has)

pub returns-clause-has : goal.returns-clause-has
returns-clause-has c q is =
    let same : c.as_str.result.now ≡ q = c.as_str.ensures.value ∙ Some_same _ q (sym (ap (option_map (λ n. string_bytes n.text)) c.in-Some.is) ∙ is) in
    subst (λ r. HasMeaning c.push.new.self.items r c.args.class.number) same (subst (λ ms. HasMeaning ms c.as_str.result.now c.args.class.number) (sym c.in_ok-push.ensures.items) (has_last c.args.meanings.now.items _))

pub returns-in_default-clause-has : goal.returns-in_default-clause-has
returns-in_default-clause-has c q is = absurd (let e = sym (ap (option_map (λ n. string_bytes n.text)) c.in_default.is) ∙ is in cc)

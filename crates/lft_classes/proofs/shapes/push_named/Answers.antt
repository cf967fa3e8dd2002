use Rattle.std.proofs.Common.{◌≡◌, ℕ, List, Some, None, option_map, string_bytes, sym, ap, subst, ◌∙◌}
use Rattle.lft_lists.proofs.Places.{Some_same}
use Rattle.lft_whole.specs.declared.tree.Name.{Name}
use Rattle.lft_classes.{specs.{inner.Naming.{EachNamed, HasNamed}, Shapes.name_of}, proofs.Naming.{has_named_last, has_named_push, named_push}}
use Rattle.lft_classes.specs.declared.shapes.OwnThing.TheVariants as thing
use Rattle.lft_classes.proofs.shapes.push_named.Goals as goal

pub returns-clause-each : goal.returns-clause-each
returns-clause-each c ps ms at all =
    let bytes : Name → List ℕ = λ n. string_bytes n.text in
    let name = c.in-Some.name.now in
    let is : Some name ≡ name_of c.args.inherited.member.now = sym (ap (option_map (λ n. n.now)) c.in-Some.is) ∙ c.name_of.ensures in
    subst (EachNamed ps ms) (sym c.in_ok-push.ensures.items) (named_push ps ms c.args.named.now.items _ all (c.args.inherited, at, ap (option_map bytes) (sym is) ∙ ap Some (sym c.as_str.ensures.value)))

pub returns-clause-kept : goal.returns-clause-kept
returns-clause-kept c q t has = subst (λ ns. HasNamed ns q t) (sym c.in_ok-push.ensures.items) (has_named_push c.args.named.now.items _ q t has)

pub returns-clause-has : goal.returns-clause-has
returns-clause-has c q named =
    let bytes : Name → List ℕ = λ n. string_bytes n.text in
    let name = c.in-Some.name.now in
    let is : Some name ≡ name_of c.args.inherited.member.now = sym (ap (option_map (λ n. n.now)) c.in-Some.is) ∙ c.name_of.ensures in
    let same : c.as_str.result.now ≡ q = c.as_str.ensures.value ∙ Some_same _ q (ap (option_map bytes) is ∙ named) in
    subst (λ r. HasNamed c.push.new.self.items r (thing.Member c.args.number)) same (subst (λ ns. HasNamed ns c.as_str.result.now (thing.Member c.args.number)) (sym c.in_ok-push.ensures.items) (has_named_last c.args.named.now.items _))

pub returns-in_default-clause-has : goal.returns-in_default-clause-has
returns-in_default-clause-has c q named =
    let bytes : Name → List ℕ = λ n. string_bytes n.text in
    let is : None ≡ name_of c.args.inherited.member.now = sym (ap (option_map (λ n. n.now)) c.in_default.is) ∙ c.name_of.ensures in
    absurd (let e = ap (option_map bytes) is ∙ named in cc)

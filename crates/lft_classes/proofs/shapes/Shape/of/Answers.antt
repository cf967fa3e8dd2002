use Rattle.std.proofs.Common.{◌≡◌, ℕ, List, Some, slice_get, map, ap, subst, ◌∙◌}
use Rattle.std.specs.Prelude.{flat_map}
use Rattle.lft_resolve.specs.inner.{Places.{IsIndexOf, place_in}, Tests.texts}
use Rattle.lft_classes.specs.declared.shapes.{Named.Named, OwnThing.OwnThing}
use Rattle.lft_classes.specs.inner.{Naming.{EachNamed, HasNamed}, Built.{HasName, HasNoForeign, members_at, parameters_at}}
use Rattle.lft_classes.proofs.Naming.{is_thing, thing_of}
use Rattle.lft_classes.proofs.shapes.Shape.of.Goals as goal

pub returns-clause-built : goal.returns-clause-built
returns-clause-built c =
    let scopes = c.args.scopes.now in
    let ps = c.in_ok-parts.parts.parameters.items in
    let ms = c.in_ok-parts.parts.members.items in
    let ns = c.in_ok-named.named.items in
    let index = c.in_ok-index.index in
    let names : texts c.deref-5.result.now ≡ map (λ n. n.name.now) ns = ap texts c.deref-5.ensures.value ∙ c.in_ok-names.ensures ∙ ap (map (λ n. n.name.now)) c.deref-4.ensures.value in
    let is : IsIndexOf index (map (λ n. n.name.now) ns) = subst (IsIndexOf index) names c.in_ok-index.ensures in
    let each : EachNamed ps ms ns = subst (λ xs. EachNamed xs ms ns) c.deref-2.ensures.value (subst (λ xs. EachNamed c.deref-2.result.now xs ns) c.deref-3.ensures.value c.in_ok-named.ensures.each) in
    let all : (q : List ℕ) (t : OwnThing) → HasName ps ms q t → HasNamed ns q t = subst (λ xs. (q : List ℕ) (t : OwnThing) → HasName xs ms q t → HasNamed ns q t) c.deref-2.ensures.value (subst (λ xs. (q : List ℕ) (t : OwnThing) → HasName c.deref-2.result.now xs q t → HasNamed ns q t) c.deref-3.ensures.value c.in_ok-named.ensures.all) in
    let once : (k : ℕ) (n : Named) → slice_get ns k ≡ Some n → place_in index n.name.now ≡ Some k = subst (λ xs. IsIndexOf index (map (λ n. n.name.now) xs) → (k : ℕ) (n : Named) → slice_get xs k ≡ Some n → place_in index n.name.now ≡ Some k) c.deref-6.ensures.value c.in_ok-refuse_twice.ensures.once is in
    record {
      chain = c.in_ok-chain.chain.items;
      extends = c.in_ok-chain.ensures.list;
      has_members = c.in_ok-parts.ensures.members ∙ ap (flat_map (members_at scopes)) c.deref.ensures.value;
      has_parameters = c.in_ok-parts.ensures.parameters ∙ ap (flat_map (parameters_at scopes)) c.deref.ensures.value;
      has_no_foreign = subst HasNoForeign c.deref-7.ensures.value c.in_ok-refuse_foreign.ensures.none;
      has_names = λ q t. (thing_of ps ms ns index is each q t, λ has. is_thing ns index once q t (all q t has));
    }

pub returns-clause-main : goal.returns-clause-main
returns-clause-main c = c.in_ok-parts.ensures.main ∙ c.in_ok-chain.ensures.main

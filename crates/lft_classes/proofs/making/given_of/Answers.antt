use Rattle.std.proofs.Common.{◌≡◌, ◌+◌, ◌<◌, ℕ, List, Some, length, map, slice_get, string_bytes, refl, rules, sym, ap, ◌∙◌, arith}
use Rattle.std.specs.Prelude.{unwrap_or}
use Rattle.std.proofs.lemmas.{List.{length_push, Sorted.IsNonDecreasingBy-from_sort_by_key}, Option.{slice_get_read, slice_get_within}}
use Rattle.lft_lists.proofs.Places.{Some_same}
use Rattle.lft_resolve.specs.inner.{Places.{place, place_in}, Tests.texts}
use Rattle.lft_whole.specs.declared.tree.Assignment.{Assignment}
use Rattle.lft_classes.specs.{declared.shapes.GivenValue.GivenValue, inner.Shapes.thing_named}
use Rattle.lft_classes.proofs.{Building.below_one, Giving.{given_moved, noted_more}, Naming.once}
use Rattle.lft_classes.proofs.making.given_of.Goals as goal

pub loop-place-preserved : goal.loop-place-preserved
loop-place-preserved c =
    let xs = c.args.instance.now.given.items in
    let index = c.in_ok-index.index in
    let k = c.loop-place.place in
    let a = c.index-assignment.result.now in
    let within : k < length xs = omega arith in
    let there : slice_get xs k ≡ Some a = slice_get_read xs (length xs) k a refl within c.index-assignment.ensures in
    let is : c.get.result ≡ place_in index (string_bytes a.name.text) = c.get.ensures ∙ ap (place_in index) c.as_str-name.ensures.value in
    let first = c.unwrap_or.ensures in
    let same = c.if-unwrap_or-place.false in
    let e : unwrap_or c.get.result k ≡ k = omega (arith, first, same) in
    let before = c.loop-place.invariant in
    let given = c.loop-place.given.items in
    record {
      once = below_one (λ j (x : Assignment). unwrap_or (place_in index (string_bytes x.name.text)) j ≡ j) xs k a there before.once (ap (λ o. unwrap_or o k) (sym is) ∙ e);
      long = ap length c.in_ok-push.ensures.items ∙ length_push given _ ∙ ap (λ n. n + 1) before.long;
      given = noted_more (thing_named c.args.inner.now) xs given _ _ c.in_ok-push.ensures.items a (ap (slice_get xs) before.long ∙ there) (ap (thing_named c.args.inner.now) (sym c.as_str-name.ensures.value) ∙ c.in-Some.ensures.some, refl) before.given;
    }

pub loop-place-init : goal.loop-place-init
loop-place-init c = record {
  once = λ k a lt at. absurd (omega (arith, lt));
  long = ap length c.new-given.ensures.items;
  given = λ k a g at is. absurd (let e = ap (λ l. slice_get l k) (sym c.new-given.ensures.items) ∙ is in cc);
}

pub returns-clause-given : goal.returns-clause-given
returns-clause-given c =
    let long = c.loop-place.invariant.long in
    given_moved (thing_named c.args.inner.now) c.args.instance.now.given.items c.loop-place.given.items _ (omega (arith, long)) c.loop-place.invariant.given c.in_ok-sort_by_key.ensures.permutation (IsNonDecreasingBy-from_sort_by_key (λ (g : GivenValue). g.parameter) _ c.in_ok-sort_by_key.ensures.sorted (λ a r q k. search rules))

pub returns-clause-once : goal.returns-clause-once
returns-clause-once c token twice =
    let xs = c.args.instance.now.given.items in
    let index = c.in_ok-index.index in
    let name : Assignment → List ℕ = λ x. string_bytes x.name.text in
    let names : texts c.deref-2.result.now ≡ map name xs = ap texts c.deref-2.ensures.value ∙ c.in_ok-names.ensures ∙ ap (map name) c.deref.ensures.value in
    let at : (k : ℕ) (a : Assignment) → slice_get xs k ≡ Some a → place_in index (name a) ≡ Some k = λ k a there. (let within = slice_get_within xs k a there in once name xs (place_in index (name a)) k a there (c.in_ok-index.ensures (name a) ∙ ap (place (name a)) names) (c.loop-place.invariant.once k a (omega (arith, within)) there)) in
    let same = Some_same twice.one twice.other (sym (at twice.one twice.first twice.is_first) ∙ ap (place_in index) twice.same ∙ at twice.other twice.second twice.is_second) in
    let later = twice.later in
    omega (arith, same, later)

use Rattle.std.proofs.Common.{◌≡◌, ◌+◌, ◌<◌, ◌++◌, ℕ, length, Some, map, take, option_map, string_bytes, slice_get, refl, sym, ap, subst, ◌∙◌, arith}
use Rattle.std.proofs.lemmas.{Grind.common_steps, List.length-map, Option.{slice_get_read, slice_get_within}}
use Rattle.lft_whole.specs.declared.tree.Reactor.{Reactor}
use Rattle.lft_classes.specs.{declared.scopes.Class.Class, inner.Scopes.{AreNumberedClasses, placed, HasMeaning, IsOwnAt}}
use Rattle.lft_classes.proofs.{Building.{below_one, pushed}, Meanings.{numbers_push, scope_has}, Numbering.{counted, next_stands, own_item}}
use Rattle.lft_classes.proofs.scopes.own_scope.Goals as goal

pub loop-place-preserved : goal.loop-place-preserved
loop-place-preserved c =
    let items = c.args.file.now.tree.reactors.items in
    let k = c.loop-place.place in
    let classes = c.loop-place.classes.items in
    let reactor = c.index.result.now in
    let pair : Reactor → ℕ × Reactor = λ r. (c.args.number, r) in
    let within : k < length items = omega arith in
    let before = c.args.classes.now.items in
    let number : c.len.result ≡ length before + k = (c.len.ensures ∙ c.loop-place.classes.ok.0) ∙ counted c.args.number items before classes k c.loop-place.invariant.classes within in
    let there : slice_get items k ≡ Some reactor = slice_get_read items (length items) k reactor refl within c.index.ensures in
    record {
      own = λ files at before. c.in_ok-push_named.ensures.own files (next_stands files c.args.number c.args.file.now c.args.classes.now.items classes k _ reactor at before c.loop-place.invariant.classes within there (c.len.ensures ∙ c.loop-place.classes.ok.0)) (c.loop-place.invariant.own files at before);
      has = λ j r q lt at is. below_one (λ i s. option_map (λ n. string_bytes n.text) s.name ≡ Some q → HasMeaning c.push_named.new.meanings.items q (length before + i)) items k reactor there (λ i s l e h. c.in_ok-push_named.ensures.kept q (length before + i) (c.loop-place.invariant.has i s q l e h)) (λ h. subst (HasMeaning c.push_named.new.meanings.items q) number (c.in_ok-push_named.ensures.has q h)) j r lt at is;
      classes = ap placed c.in_ok-push.ensures.items ∙ pushed (λ x. (x.file, x.reactor.now)) pair (placed c.args.classes.now.items) classes items k _ reactor within (sym c.index.ensures) refl c.loop-place.invariant.classes;
      numbers = λ all. subst AreNumberedClasses (sym c.in_ok-push.ensures.items) (numbers_push classes _ (c.loop-place.invariant.numbers all) (c.len.ensures ∙ c.loop-place.classes.ok.0));
    }

pub returns-clause-own : goal.returns-clause-own
returns-clause-own c files at before = record {
  is = scope_has (IsOwnAt files c.args.number) _ _ c.in_ok-scope.ensures (c.loop-place.invariant.own files at before);
  own = λ q d is.
      let item = own_item files c.args.number c.args.file.now d at is.stands is.in_file in
      let within = slice_get_within c.args.file.now.tree.reactors.items item.0 d.reactor.now item.1 in
      let locate : Class → ℕ × Reactor = λ x. (x.file, x.reactor.now) in
      let old = c.args.classes.now.items in
      let long = length-map old locate in
      let same = ap length before in
      let number = item.2 in
      let is_number : length old + item.0 ≡ d.number = omega (arith, long, same, number) in
      subst (λ ms. HasMeaning ms q d.number) (sym c.in_ok-scope.ensures.meanings) (subst (HasMeaning c.loop-place.meanings.items q) is_number (c.loop-place.invariant.has item.0 d.reactor.now q (omega (arith, within)) item.1 is.has_name));
}

pub returns-clause-classes : goal.returns-clause-classes
returns-clause-classes c =
    let items = c.args.file.now.tree.reactors.items in
    let whole : take c.loop-place.place items ≡ items = grind (arith, common_steps) in
    c.loop-place.invariant.classes ∙ ap (λ rs. placed c.args.classes.now.items ++ map (λ r. (c.args.number, r)) rs) whole

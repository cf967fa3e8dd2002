use Rattle.std.proofs.Common.{◌≡◌, ℕ, List, Some, option_map, slice_get, string_bytes, sym, subst, arith}
use Rattle.std.proofs.lemmas.Option.{slice_get_within}
use Rattle.lft_whole.specs.declared.tree.Name.{Name}
use Rattle.lft_classes.specs.{declared.shapes.{Inherited.Inherited, InheritedParameter.InheritedParameter}, inner.Naming.{EachNamed, HasNamed}, Shapes.name_of}
use Rattle.lft_classes.proofs.{Building.below_one, Naming.{all_noted, has_named_last, has_named_push, named_push}}
use Rattle.lft_classes.specs.declared.shapes.OwnThing.TheVariants as thing
use Rattle.lft_classes.proofs.shapes.all_named.Goals as goal

pub loop-number-preserved : goal.loop-number-preserved
loop-number-preserved c =
    let ps = c.args.parameters.now in
    let ms = c.args.members.now in
    let i = c.loop-number.number in
    let p = c.item_at-declared.result in
    let old = c.loop-number.named.items in
    let there : slice_get ps i ≡ Some p = c.item_at-declared.ensures in
    let items = c.in_ok-push.ensures.items in
    let P : ℕ → InheritedParameter → Type 0 = λ j d. HasNamed c.push.new.self.items (string_bytes d.parameter.now.name.text) (thing.Parameter j) in
    record {
      each = subst (EachNamed ps ms) (sym items) (named_push ps ms old _ c.loop-number.invariant.each (p, there, sym c.as_str.ensures.value));
      parameters = below_one P ps i p there (λ j d l at. subst (λ ns. HasNamed ns (string_bytes d.parameter.now.name.text) (thing.Parameter j)) (sym items) (has_named_push old _ (string_bytes d.parameter.now.name.text) (thing.Parameter j) (c.loop-number.invariant.parameters j d l at))) (subst (λ q. HasNamed c.push.new.self.items q (thing.Parameter i)) c.as_str.ensures.value (subst (λ ns. HasNamed ns c.as_str.result.now (thing.Parameter i)) (sym items) (has_named_last old _)));
    }

pub loop-number-2-init : goal.loop-number-2-init
loop-number-2-init c =
    let ps = c.args.parameters.now in
    record {
      each = c.loop-number.invariant.each;
      parameters = λ j p at. (let within = slice_get_within ps j p at in c.loop-number.invariant.parameters j p (omega (arith, within)) at);
      members = λ j m lt at q is. absurd (omega (arith, lt));
    }

pub loop-number-2-preserved : goal.loop-number-2-preserved
loop-number-2-preserved c =
    let ps = c.args.parameters.now in
    let ms = c.args.members.now in
    let i = c.loop-number-2.number in
    let m = c.item_at-inherited.result in
    let there : slice_get ms i ≡ Some m = c.item_at-inherited.ensures in
    let pushed = c.in_ok-push_named.ensures in
    let inv = c.loop-number-2.invariant in
    let P : ℕ → Inherited → Type 0 = λ j d. (q : List ℕ) → option_map (λ (n : Name). string_bytes n.text) (name_of d.member.now) ≡ Some q → HasNamed c.push_named.new.named.items q (thing.Member j) in
    record {
      each = pushed.each ps ms there inv.each;
      parameters = λ j p at. pushed.kept (string_bytes p.parameter.now.name.text) (thing.Parameter j) (inv.parameters j p at);
      members = below_one P ms i m there (λ j d l at q is. pushed.kept q (thing.Member j) (inv.members j d l at q is)) pushed.has;
    }

pub returns-clause-all : goal.returns-clause-all
returns-clause-all c =
    let ms = c.args.members.now in
    let inv = c.loop-number-2.invariant in
    all_noted c.args.parameters.now ms c.loop-number-2.named.items inv.parameters (λ j m at. (let within = slice_get_within ms j m at in inv.members j m (omega (arith, within)) at))

use Rattle.std.proofs.Common.{◌≡◌, ◌<◌, ℕ, List, Some, option_map, slice_get, string_bytes}
use Rattle.lft_whole.specs.declared.tree.Name.{Name}
use Rattle.lft_classes.specs.{declared.shapes.{Inherited.Inherited, InheritedParameter.InheritedParameter}, inner.Naming.{EachNamed, HasNamed}, Shapes.name_of}
use Rattle.lft_classes.specs.declared.shapes.OwnThing.TheVariants as thing
use Rattle.lft_classes.proofs.shapes.all_named.Given as goal

abbrev pub invariant-loop-number : goal.invariant-loop-number
invariant-loop-number l = record {
  each : EachNamed l.parameters l.fn.members l.named.items;
  parameters : (j : ℕ) (p : InheritedParameter) → j < l.number → slice_get l.parameters j ≡ Some p → HasNamed l.named.items (string_bytes p.parameter.now.name.text) (thing.Parameter j);
}

abbrev pub invariant-loop-number-2 : goal.invariant-loop-number-2
invariant-loop-number-2 l = record {
  each : EachNamed l.fn.parameters l.members l.named.items;
  parameters : (j : ℕ) (p : InheritedParameter) → slice_get l.fn.parameters j ≡ Some p → HasNamed l.named.items (string_bytes p.parameter.now.name.text) (thing.Parameter j);
  members : (j : ℕ) (m : Inherited) → j < l.number → slice_get l.members j ≡ Some m → (q : List ℕ) → option_map (λ (n : Name). string_bytes n.text) (name_of m.member.now) ≡ Some q → HasNamed l.named.items q (thing.Member j);
}

use Rattle.std.proofs.Common.{◌≡◌, ℕ, length, Some, None, slice_get}
use Rattle.lft_classes.specs.declared.shapes.{Child.Child, Inherited.Inherited}
use Rattle.lft_classes.specs.inner.{Built.{Core, IsChildInstance, cores, instance_of}, Makings.{AreMadeShapes, GoesOnMaking, KeepsNoted}, Shapes.child_at}
use Rattle.lft_classes.proofs.making.Making.fill.Given as goal

abbrev pub invariant-loop-number : goal.invariant-loop-number
invariant-loop-number l = record {
  goes : GoesOnMaking (λ first. Unit {0}) l.initial.self l.self;
  noted : KeepsNoted l.initial.self.shapes.items l.self.shapes.items;
  none : (k : ℕ) (c : Core) (m : Inherited) (n : ℕ) → slice_get l.children.items k ≡ Some None → slice_get (cores l.initial.self.shapes.items) l.fn.shape ≡ Some c → slice_get c.members k ≡ Some m → instance_of l.initial.self.scopes (m.file, m.member.now) ≡ Some n → ⊥;
  count : length l.children.items ≡ l.number;
  children : (first : ℕ) → AreMadeShapes l.initial.self.scopes first l.initial.self → (k : ℕ) (child : Child) → child_at l.children.items k ≡ Some child → IsChildInstance l.initial.self.scopes (cores l.self.shapes.items) l.fn.shape k child;
}

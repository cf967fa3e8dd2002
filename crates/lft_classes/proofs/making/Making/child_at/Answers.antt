use Rattle.std.proofs.Common.{◌≡◌, ◌≢◌, Some, None, option_copied, slice_get, sym, ap, subst, ◌∙◌}
use Rattle.lft_lists.proofs.{Mapped.{mapped, mapped_from}, Options.lacking, Places.same_some}
use Rattle.lft_resolve.proofs.Placing.{lent}
use Rattle.lft_whole.specs.declared.tree.Instance.{Instance}
use Rattle.lft_classes.specs.declared.shapes.Inherited.{Inherited}
use Rattle.lft_classes.specs.inner.{Built.{AreGiven, Core, core, cores, instance_of}, Circles.GivesOnce, Makings.IsNeeded}
use Rattle.lft_classes.proofs.{Goings.goes_weaker, Needing.{below_inside, is_instance}}
use Rattle.lft_whole.specs.declared.tree.Member.TheVariants as member
use Rattle.lft_classes.proofs.making.Making.child_at.Goals as goal

pub returns-clause-goes : goal.returns-clause-goes
returns-clause-goes c =
    let scopes = c.args.self.now.scopes in
    let shapes = c.args.self.now.shapes.items in
    let shape = c.in-Some.found.now in
    let m = c.in-Some-member.inherited in
    let there : slice_get shapes c.args.shape ≡ Some shape = ap (λ l. slice_get l c.args.shape) (sym c.deref.ensures.value) ∙ sym (lent c.deref.result.now c.args.shape c.get.result c.get.ensures.lookup) ∙ ap option_copied c.in-Some.is in
    let at : slice_get (cores shapes) c.args.shape ≡ Some (core shape) = mapped core shapes c.args.shape shape there in
    let is_member : slice_get shape.members.items c.args.number ≡ Some m = sym c.member.ensures ∙ c.in-Some-member.is in
    let is : m.member.now ≡ member.Instance c.in-Some-instance.instance.now = c.in-Some-instance.ensures.some in
    goes_weaker (IsNeeded scopes m.file c.in-Some-instance.instance.now) (λ first. Unit {0}) _ _ (λ first n all r means. below_inside scopes first (core shape) c.args.number m r (all.shapes.built c.args.shape (core shape) at) (all.shapes.below c.args.shape (core shape) at) is_member (ap (λ x. instance_of scopes (m.file, x)) is ∙ means)) c.in_ok-child.ensures.goes

pub returns-clause-child : goal.returns-clause-child
returns-clause-child c first all =
    let scopes = c.args.self.now.scopes in
    let shapes = c.args.self.now.shapes.items in
    let shape = c.in-Some.found.now in
    let m = c.in-Some-member.inherited in
    let there : slice_get shapes c.args.shape ≡ Some shape = ap (λ l. slice_get l c.args.shape) (sym c.deref.ensures.value) ∙ sym (lent c.deref.result.now c.args.shape c.get.result c.get.ensures.lookup) ∙ ap option_copied c.in-Some.is in
    let at : slice_get (cores shapes) c.args.shape ≡ Some (core shape) = mapped core shapes c.args.shape shape there in
    let is_member : slice_get shape.members.items c.args.number ≡ Some m = sym c.member.ensures ∙ c.in-Some-member.is in
    let is : m.member.now ≡ member.Instance c.in-Some-instance.instance.now = c.in-Some-instance.ensures.some in
    let built = all.shapes.built c.args.shape (core shape) at in
    let below = all.shapes.below c.args.shape (core shape) at in
    let needed : IsNeeded scopes m.file c.in-Some-instance.instance.now first = λ r means. below_inside scopes first (core shape) c.args.number m r built below is_member (ap (λ x. instance_of scopes (m.file, x)) is ∙ means) in
    let child = c.in_ok-child.ensures.child first needed all in
    record {
      outer = core shape;
      is_outer = c.in_ok-child.ensures.goes.kept c.args.shape (core shape) at;
      member = m;
      is_member = is_member;
      inner = child.2.core;
      is_inner = child.2.is_core;
      means = ap (λ x. instance_of scopes (m.file, x)) is ∙ child.1 ∙ ap Some (sym child.2.is_of);
      gives = λ instance same.
          let e : member.Instance c.in-Some-instance.instance.now ≡ member.Instance instance = sym is ∙ same in
          let i : c.in-Some-instance.instance.now ≡ instance = cc in
          let inner = mapped_from core c.child_of.new.self.shapes.items c.in_ok-child.child.shape child.2.core child.2.is_core in
          let given = c.in_ok-child.ensures.given inner.0 inner.1 in
          subst (λ (x : Instance). GivesOnce x.given.items × AreGiven child.2.core.things x.given.items c.in_ok-child.child.given.items) i (c.in_ok-child.ensures.once first needed all, subst (λ (o : Core). AreGiven o.things c.in-Some-instance.instance.now.given.items c.in_ok-child.child.given.items) inner.2 given);
    }

pub returns-in_default-clause-none : goal.returns-in_default-clause-none
returns-in_default-clause-none c d m n at has means =
    let shapes = c.args.self.now.shapes.items in
    let none : slice_get shapes c.args.shape ≡ None = ap (λ l. slice_get l c.args.shape) (sym c.deref.ensures.value) ∙ sym (lent c.deref.result.now c.args.shape c.get.result c.get.ensures.lookup) ∙ ap option_copied c.in_default.is in
    let from = mapped_from core shapes c.args.shape d at in
    absurd (let e = sym none ∙ from.1 in cc)

pub returns-in_default-member-clause-none : goal.returns-in_default-member-clause-none
returns-in_default-member-clause-none c d m n at has means =
    let shapes = c.args.self.now.shapes.items in
    let shape = c.in-Some.found.now in
    let there : slice_get shapes c.args.shape ≡ Some shape = ap (λ l. slice_get l c.args.shape) (sym c.deref.ensures.value) ∙ sym (lent c.deref.result.now c.args.shape c.get.result c.get.ensures.lookup) ∙ ap option_copied c.in-Some.is in
    let same : d ≡ core shape = same_some (slice_get (cores shapes) c.args.shape) d (core shape) at (mapped core shapes c.args.shape shape there) in
    let none : slice_get shape.members.items c.args.number ≡ None = sym c.member.ensures ∙ c.in_default-member.is in
    absurd (let e = sym none ∙ ap (λ (o : Core). slice_get o.members c.args.number) (sym same) ∙ has in cc)

pub returns-in_default-instance-clause-none : goal.returns-in_default-instance-clause-none
returns-in_default-instance-clause-none c d m n at has means =
    let shapes = c.args.self.now.shapes.items in
    let shape = c.in-Some.found.now in
    let x = c.in-Some-member.inherited in
    let there : slice_get shapes c.args.shape ≡ Some shape = ap (λ l. slice_get l c.args.shape) (sym c.deref.ensures.value) ∙ sym (lent c.deref.result.now c.args.shape c.get.result c.get.ensures.lookup) ∙ ap option_copied c.in-Some.is in
    let same : d ≡ core shape = same_some (slice_get (cores shapes) c.args.shape) d (core shape) at (mapped core shapes c.args.shape shape there) in
    let is : slice_get shape.members.items c.args.number ≡ Some x = sym c.member.ensures ∙ c.in-Some-member.is in
    let one : m ≡ x = same_some (slice_get d.members c.args.number) m x has (ap (λ (o : Core). slice_get o.members c.args.number) same ∙ is) in
    let i = is_instance c.args.self.now.scopes m.file m.member.now n means in
    absurd (lacking ((instance : Instance) → x.member.now ≢ member.Instance instance) c.instance.result c.instance.ensures.none c.in_default-instance.is i.0 (ap (λ (y : Inherited). y.member.now) (sym one) ∙ i.1))

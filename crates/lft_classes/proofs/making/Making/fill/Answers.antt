use Rattle.std.proofs.Common.{◌≡◌, ◌+◌, ℕ, length, Some, None, inl, inr, option_map, slice_get, refl, sym, ap, subst, ◌∙◌, arith}
use Rattle.std.proofs.lemmas.{List.{length-map, length_push}, Option.slice_get_within}
use Rattle.lft_lists.proofs.{Options.{found, lacking}, Places.get_push_cases}
use Rattle.lft_classes.specs.declared.shapes.{Child.Child, Inherited.Inherited}
use Rattle.lft_classes.specs.inner.{Built.{Core, IsChildInstance, core, cores, instance_of}, Makings.AreMadeShapes, Shapes.child_at}
use Rattle.lft_classes.proofs.Goings.{child_push, goes_nowhere, goes_further, inside_kept, noted_in, set_made}
use Rattle.lft_classes.proofs.making.Making.fill.Goals as goal

pub loop-number-init : goal.loop-number-init
loop-number-init c = record {
  goes = goes_nowhere _ _;
  noted = λ s k t e. e;
  none = λ k d m n at. absurd (let e = ap (λ l. slice_get l k) (sym c.new-children.ensures.items) ∙ at in cc);
  count = ap length c.new-children.ensures.items;
  children = λ first all k child at. absurd (let e = ap (λ l. child_at l k) (sym c.new-children.ensures.items) ∙ at in cc);
}

pub loop-number-preserved : goal.loop-number-preserved
loop-number-preserved c =
    let before = c.loop-number.invariant in
    let old = c.loop-number.self in
    let scopes = c.args.self.now.scopes in
    let children = c.loop-number.children.items in
    let cs = cores c.child_at.new.self.shapes.items in
    let Q : ℕ → Child → Type 0 = λ k child. IsChildInstance scopes cs c.args.shape k child in
    record {
      goes = goes_further _ _ _ _ before.goes c.in_ok-child.ensures.goes;
      noted = λ s k t e. c.in_ok-child.ensures.noted s k t (before.noted s k t e);
      none = λ k d m n at is member means. elim (get_push_cases children c.in_ok-child.child k None (ap (λ l. slice_get l k) (sym c.in_ok-push.ensures.items) ∙ at)) [
        | inl was ↦ before.none k d m n was is member means
        | inr last ↦ lacking ((d : Core) (m : Inherited) (n : ℕ) → slice_get (cores old.shapes.items) c.args.shape ≡ Some d → slice_get d.members c.loop-number.number ≡ Some m → instance_of old.scopes (m.file, m.member.now) ≡ Some n → ⊥) c.in_ok-child.child c.in_ok-child.ensures.none last.1 d m n (before.goes.kept c.args.shape d is) (ap (slice_get d.members) (sym (last.0 ∙ before.count)) ∙ member) (ap (λ s. instance_of s (m.file, m.member.now)) before.goes.scopes ∙ means)
      ];
      count = ap length c.in_ok-push.ensures.items ∙ length_push children c.in_ok-child.child ∙ ap (λ n. n + 1) before.count;
      children = λ first all. subst (λ l. (k : ℕ) (child : Child) → child_at l k ≡ Some child → Q k child) (sym c.in_ok-push.ensures.items) (child_push Q children c.in_ok-child.child c.loop-number.number before.count (λ k child at. inside_kept scopes (cores old.shapes.items) cs c.args.shape k child c.in_ok-child.ensures.goes.kept (before.children first all k child at)) (λ child is.
          let P : Child → Type 0 = λ x. (n : ℕ) → AreMadeShapes old.scopes n old → IsChildInstance old.scopes cs c.args.shape c.loop-number.number x in
          subst (λ s. IsChildInstance s cs c.args.shape c.loop-number.number child) before.goes.scopes (found P c.in_ok-child.child child c.in_ok-child.ensures.child is first (subst (λ s. AreMadeShapes s first old) (sym before.goes.scopes) (before.goes.made first tt all)))));
    }

pub returns-clause-goes : goal.returns-clause-goes
returns-clause-goes c =
    let before = c.loop-number.invariant in
    let scopes = c.args.self.now.scopes in
    record {
      scopes = before.goes.scopes;
      main = before.goes.main;
      made = λ first n all. set_made scopes first c.loop-number.self _ c.args.shape c.loop-number.children.items refl c.set_children.ensures.cores c.set_children.ensures.tables (before.goes.made first n all) (before.children first all);
      kept = λ i d at. ap (λ l. slice_get l i) c.set_children.ensures.cores ∙ before.goes.kept i d at;
    }

pub returns-clause-others : goal.returns-clause-others
returns-clause-others c s k t apart e = c.set_children.ensures.others s k t apart (c.loop-number.invariant.noted s k t e)

pub returns-clause-noted : goal.returns-clause-noted
returns-clause-noted c d is long k n m member means =
    let before = c.loop-number.invariant in
    let old = c.loop-number.self.shapes.items in
    let children = c.loop-number.children.items in
    let number_of : Child → ℕ = λ child. child.shape in
    let inner = slice_get_within d.members k m member in
    let count = before.count in
    let child = noted_in children k (slice_get d.members k ≡ Some m) (omega (arith, inner, count, long)) (λ none at. before.none k d m n none is at means) member in
    let there = slice_get_within (cores old) c.args.shape d (before.goes.kept c.args.shape d is) in
    let as_long = length-map old core in
    (child.0.shape, c.set_children.ensures.noted (omega (arith, there, as_long)) k child.0.shape (ap (option_map number_of) child.1))

use Rattle.std.proofs.Common.{◌≡◌, Some, None, option_map, option_copied, slice_get, sym, ap, subst, ◌∙◌}
use Rattle.lft_lists.proofs.Places.{Some_same}
use Rattle.lft_resolve.proofs.Placing.{lent}
use Rattle.lft_whole.specs.declared.tree.Instance.{Instance}
use Rattle.lft_classes.specs.{declared.shapes.Child.Child, inner.{Needs.{HasNeed, HasNoMarkedIndex, IsPassedIn, Marks, NamesParameter}, Shapes.child_at}}
use Rattle.lft_classes.specs.Needs.{Times, Widths}
use Rattle.lft_classes.proofs.{Marking.{marks_as, marks_none, marks_on}, Passing.{inside_times, inside_widths, none_inside, outside_times, outside_widths}}
use Rattle.lft_whole.specs.declared.tree.Member.TheVariants as member
use Rattle.lft_classes.proofs.deciding.Needs.note_instance.Goals as goal

instance_same : (i j : Instance) → member.Instance i ≡ member.Instance j → i ≡ j
instance_same i j e = cc

pub returns-in_default-clause-sized : goal.returns-in_default-clause-sized
returns-in_default-clause-sized c =
    let shape = c.args.shape.now in
    let instance = c.args.instance.now in
    let k = c.args.number in
    marks_as (NamesParameter shape instance.width) (HasNeed Widths c.args.shapes.now shape k (member.Instance instance)) _ _ c.in_ok-note_width.ensures.sized (outside_widths c.args.shapes.now shape k instance (λ child inner is at. (let e : None ≡ Some child = sym (ap (option_map (λ x. x.now)) c.in_default.is) ∙ c.child.ensures ∙ is in absurd (cc))))

pub returns-in_default-get-clause-sized : goal.returns-in_default-get-clause-sized
returns-in_default-get-clause-sized c =
    let shapes = c.args.shapes.now in
    let shape = c.args.shape.now in
    let instance = c.args.instance.now in
    let k = c.args.number in
    let child = c.in-Some.child.now in
    let there : child_at shape.children.items k ≡ Some child = sym c.child.ensures ∙ ap (option_map (λ x. x.now)) c.in-Some.is in
    let lacks : slice_get shapes child.shape ≡ None = sym (lent shapes child.shape c.get.result c.get.ensures.lookup) ∙ ap option_copied c.in_default-get.is in
    marks_as (NamesParameter shape instance.width) (HasNeed Widths shapes shape k (member.Instance instance)) _ _ c.in_ok-note_width.ensures.sized (outside_widths shapes shape k instance (none_inside shapes shape k child there lacks))

pub returns-in_default-get-clause-timed : goal.returns-in_default-get-clause-timed
returns-in_default-get-clause-timed c =
    let shapes = c.args.shapes.now in
    let shape = c.args.shape.now in
    let instance = c.args.instance.now in
    let k = c.args.number in
    let child = c.in-Some.child.now in
    let there : child_at shape.children.items k ≡ Some child = sym c.child.ensures ∙ ap (option_map (λ x. x.now)) c.in-Some.is in
    let lacks : slice_get shapes child.shape ≡ None = sym (lent shapes child.shape c.get.result c.get.ensures.lookup) ∙ ap option_copied c.in_default-get.is in
    subst (λ l. Marks (HasNeed Times shapes shape k (member.Instance instance)) l c.note_width.new.self.timed.items) (ap (λ v. v.items) c.note_width.ensures.timed) (marks_none (HasNeed Times shapes shape k (member.Instance instance)) c.note_width.new.self.timed.items (outside_times shapes shape k instance (none_inside shapes shape k child there lacks)))

pub returns-clause-sized : goal.returns-clause-sized
returns-clause-sized c =
    let shapes = c.args.shapes.now in
    let shape = c.args.shape.now in
    let k = c.args.number in
    let instance = c.args.instance.now in
    let child = c.in-Some.child.now in
    let inner = c.in-Some-get.inner.now in
    let there : child_at shape.children.items k ≡ Some child = sym c.child.ensures ∙ ap (option_map (λ x. x.now)) c.in-Some.is in
    let found : slice_get shapes child.shape ≡ Some inner = sym (lent shapes child.shape c.get.result c.get.ensures.lookup) ∙ ap option_copied c.in-Some-get.is in
    let passed : Marks (IsPassedIn Widths shape inner instance.given.items) c.note_width.new.self.sized.items c.note_given.new.self.sized.items = subst (λ l. Marks (IsPassedIn Widths shape inner l) c.note_width.new.self.sized.items c.note_given.new.self.sized.items) c.deref.ensures.value c.note_given.ensures.sized in
    marks_on (NamesParameter shape instance.width) (IsPassedIn Widths shape inner instance.given.items) (HasNeed Widths shapes shape k (member.Instance instance)) _ _ _ c.in_ok-note_width.ensures.sized passed (inside_widths shapes shape k instance child inner there found)

pub returns-clause-timed : goal.returns-clause-timed
returns-clause-timed c =
    let shapes = c.args.shapes.now in
    let shape = c.args.shape.now in
    let k = c.args.number in
    let instance = c.args.instance.now in
    let child = c.in-Some.child.now in
    let inner = c.in-Some-get.inner.now in
    let there : child_at shape.children.items k ≡ Some child = sym c.child.ensures ∙ ap (option_map (λ x. x.now)) c.in-Some.is in
    let found : slice_get shapes child.shape ≡ Some inner = sym (lent shapes child.shape c.get.result c.get.ensures.lookup) ∙ ap option_copied c.in-Some-get.is in
    let passed = subst (λ l. Marks (IsPassedIn Times shape inner l) c.note_width.new.self.timed.items c.note_given.new.self.timed.items) c.deref.ensures.value c.note_given.ensures.timed in
    marks_as (IsPassedIn Times shape inner instance.given.items) (HasNeed Times shapes shape k (member.Instance instance)) _ _ (subst (λ l. Marks (IsPassedIn Times shape inner instance.given.items) l c.note_given.new.self.timed.items) (ap (λ v. v.items) c.note_width.ensures.timed) passed) (inside_times shapes shape k instance child inner there found)

pub returns-in_default-clause-index : goal.returns-in_default-clause-index
returns-in_default-clause-index c i child inner is at has = (let e : None ≡ Some child = sym (ap (option_map (λ x. x.now)) c.in_default.is) ∙ c.child.ensures ∙ at in absurd (cc))

pub returns-in_default-get-clause-index : goal.returns-in_default-get-clause-index
returns-in_default-get-clause-index c i child inner is at has =
    let shapes = c.args.shapes.now in
    let found = c.in-Some.child.now in
    let there : child_at c.args.shape.now.children.items c.args.number ≡ Some found = sym c.child.ensures ∙ ap (option_map (λ x. x.now)) c.in-Some.is in
    let lacks : slice_get shapes found.shape ≡ None = sym (lent shapes found.shape c.get.result c.get.ensures.lookup) ∙ ap option_copied c.in_default-get.is in
    let same = Some_same found child (sym there ∙ at) in
    (let e : None ≡ Some inner = sym lacks ∙ ap (λ (x : Child). slice_get shapes x.shape) same ∙ has in absurd (cc))

pub returns-clause-index : goal.returns-clause-index
returns-clause-index c i child inner is at has =
    let shapes = c.args.shapes.now in
    let found = c.in-Some.child.now in
    let shape = c.in-Some-get.inner.now in
    let there : child_at c.args.shape.now.children.items c.args.number ≡ Some found = sym c.child.ensures ∙ ap (option_map (λ x. x.now)) c.in-Some.is in
    let stands : slice_get shapes found.shape ≡ Some shape = sym (lent shapes found.shape c.get.result c.get.ensures.lookup) ∙ ap option_copied c.in-Some-get.is in
    let same = Some_same found child (sym there ∙ at) in
    let one : shape ≡ inner = Some_same shape inner (sym stands ∙ ap (λ (x : Child). slice_get shapes x.shape) same ∙ has) in
    subst (λ s. HasNoMarkedIndex s i) one (subst (HasNoMarkedIndex shape) (instance_same c.args.instance.now i is) c.in_ok-refuse_by_index.ensures)

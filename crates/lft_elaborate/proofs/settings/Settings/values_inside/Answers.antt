use Rattle.std.proofs.Common.{◌≡◌, map, Some, sym, ap, ◌∙◌, slice_get}
use Rattle.std.proofs.lemmas.Option.{slice_get-get_or}
use Rattle.lft_classes.specs.inner.Shapes.{child_at}
use Rattle.lft_elaborate.{specs.inner.Values.values_inside, proofs.Keeping.is_inside}
use Rattle.lft_elaborate.proofs.settings.Settings.values_inside.Goals as goal

pub returns-clause-inside : goal.returns-clause-inside
returns-clause-inside c t at =
    let s = c.args.self.now in
    let x = c.in-Some.found.now in
    let outer = c.in-Some-get.outer.now in
    let child = c.in-Some-child.child.now in
    let inner = c.in-Some-get-2.inner.now in
    let l1 = c.in-Some.ensures.lookup in
    let l2 = c.in-Some-get.ensures.lookup in
    let l3 = c.in-Some-get-2.ensures.lookup in
    let is : slice_get s.settings.items c.args.setting ≡ Some x = (let item = slice_get-get_or c.deref.result.now c.args.setting x l1.3.0 in let same = l1.1 in let list = c.deref.ensures.value in cc) in
    let e : slice_get s.shapes.items x.shape ≡ Some outer = (let item = slice_get-get_or c.deref-2.result.now x.shape outer l2.3.0 in let same = l2.1 in let list = c.deref-2.ensures.value in cc) in
    let f : child_at outer.children.items c.args.member ≡ Some child = sym c.in-Some-child.ensures in
    let g : slice_get s.shapes.items child.shape ≡ Some inner = (let item = slice_get-get_or c.deref-3.result.now child.shape inner l3.3.0 in let same = l3.1 in let list = c.deref-3.ensures.value in cc) in
    sym (is_inside s.shapes.items s.settings.items c.args.setting c.args.member x t is at outer child inner c.in_ok-values.values.items e f g (c.in_ok-values.ensures.found ∙ ap (λ vs. values_inside outer (map (λ v. Some v) vs) child.given.items inner) c.as_slice.ensures.value))

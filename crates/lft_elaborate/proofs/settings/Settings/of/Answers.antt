use Rattle.std.proofs.Common.{◌≡◌, length, None, sym, ap, subst, ◌∙◌, arith}
use Rattle.std.specs.Prelude.{Vec}
use Rattle.std.{proofs.lemmas.List.length_push, specs.Global.Global}
use Rattle.lft_lists.proofs.Places.{length_same}
use Rattle.lft_classes.specs.{declared.shapes.Shape.Shape, inner.Nestings.IsNesting}
use Rattle.lft_elaborate.{specs.inner.Noted.{noted_at, noted_for}, proofs.Keeping.{first_shape, made_none, none_known, none_noted}}
use Rattle.lft_elaborate.proofs.settings.Settings.of.Goals as goal

pub loop-preserved : goal.loop-preserved
loop-preserved c = record {
  long = (let l = ap length c.in_ok-push.ensures.items ∙ length_push c.loop.known.items c.new.result in let was = c.loop.invariant.long in omega (arith, l, was));
  none = λ shape q. subst (λ l. noted_for l shape q ≡ None) (sym c.in_ok-push.ensures.items) (none_known c.loop.known.items c.new.result c.new.ensures.empty c.loop.invariant.none shape q);
}

pub returns-clause-shapes : goal.returns-clause-shapes
returns-clause-shapes c =
    let e = c.in_ok-work.ensures.nesting in
    let made = c.in_ok-work.field-0 in
    let rest = c.in_ok-add_main.ensures.rest in
    (e.0, made.work, subst (λ sh. IsNesting c.args.files.now e.0 (record { work = made.work; shapes = sh; order = c.add_main.new.self.order })) (sym rest.0) (subst (λ o. IsNesting c.args.files.now e.0 (record { work = made.work; shapes = made.shapes; order = o })) (sym rest.1) e.1))

pub returns-clause-settings : goal.returns-clause-settings
returns-clause-settings c =
    let nest = c.in_ok-work.ensures.nesting.1 in
    let shapes = c.in_ok-work.field-0.shapes in
    let same : shapes ≡ c.in_ok-work.shapes = cc in
    let equal : length shapes.items ≡ length c.in_ok-work.shapes.items = ap (λ (v : Vec Shape Global). length v.items) same in
    let main = first_shape shapes.items nest.main nest.is_first in
    let ok = c.in_ok-work.shapes.ok.0 in
    let long = c.loop.invariant.long in
    let only = ap length c.in_ok-only.ensures ∙ length_same c.len.result None in
    c.in_ok-add_main.ensures.main main.0 main.1 c.new-2.ensures.items (made_none (record { shapes = shapes.items; settings = c.new-2.result.items; known = c.loop.known.items; only = c.in_ok-only.only.items }) c.new-2.ensures.items (omega (arith, long, ok, equal)) (omega (arith, only, ok, equal)) c.loop.invariant.none (λ shape. ap (λ l. noted_at l shape) c.in_ok-only.ensures ∙ none_noted c.len.result shape))

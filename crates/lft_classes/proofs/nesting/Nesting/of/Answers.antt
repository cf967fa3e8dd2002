use Rattle.std.proofs.Common.{◌≡◌, ◌<◌, Some, length, slice_get, refl, sym, ap, subst, ◌∙◌, arith}
use Rattle.std.proofs.lemmas.Option.{slice_get_read, slice_get_within}
use Rattle.lft_classes.specs.declared.work.Work.{Work}
use Rattle.lft_classes.specs.inner.{Built.{AreBuilt, AreInside, AreNoted, cores, first_class}, Needs.IsIndexFree, Shapes.{inside, tables}}
use Rattle.lft_classes.specs.inner.Walks.{IsTopologicalOrder, IsList}
use Rattle.lft_classes.proofs.{Building.below_one, Decided.{decided_next, ready_next}}
use Rattle.lft_classes.proofs.nesting.Nesting.of.Goals as goal

pub returns : goal.returns
returns c =
    let scopes = c.in_ok-scopes.scopes in
    let made = c.in_ok-made.ensures in
    let inv = c.loop-place.invariant in
    let shapes = c.in_ok-made.made.1.items in
    let now = c.loop-place.shapes.items in
    let order = c.in_ok-order.order.items in
    let behind : IsTopologicalOrder (inside (tables shapes)) order = subst (λ l. IsTopologicalOrder (inside (tables l)) order) c.deref.ensures.value c.in_ok-order.ensures.order.behind in
    record {
      nesting = (
        scopes,
        record {
          scopes_are = c.in_ok-scopes.ensures.scopes;
          main = c.in_ok-main.main;
          main_is = c.in_ok-main.ensures.main;
          is_refused = c.in_ok-order.ensures.main ∙ made.main ∙ ap (λ (w : Work). w.main) c.of-first.ensures;
          is_first = ap first_class inv.same ∙ made.first;
          built = subst (AreBuilt scopes) (sym inv.same) made.shapes.built;
          inside_are = subst (λ cs. AreInside scopes cs (tables now)) (sym inv.same) (subst (AreInside scopes (cores shapes)) (sym inv.rows) made.shapes.inside);
          all_noted = subst (λ cs. AreNoted scopes cs (tables now)) (sym inv.same) (subst (AreNoted scopes (cores shapes)) (sym inv.rows) made.noted);
          order = subst (λ rows. IsList (inside rows) 0 c.in_ok-order.order.items) (sym inv.rows) (subst (λ l. IsList (inside (tables l)) 0 c.in_ok-order.order.items) c.deref.ensures.value c.in_ok-order.ensures.order);
          decided = λ s h. inv.decided scopes c.in_ok-main.main.number made.shapes made.noted behind h.0 s (let within = slice_get_within order h.0 s h.1 in omega (arith, within)) h.1;
          index_free = λ s h. subst (λ cs. IsIndexFree scopes cs (tables now) s) (sym inv.same) (subst (λ rows. IsIndexFree scopes (cores shapes) rows s) (sym inv.rows) (inv.index scopes c.in_ok-main.main.number made.shapes made.noted behind h.0 s (let within = slice_get_within order h.0 s h.1 in omega (arith, within)) h.1));
        },
      );
    }

pub loop-place-init : goal.loop-place-init
loop-place-init c = record { rows = refl; same = refl; decided = λ scopes first all noted behind j t lt at. absurd (omega (arith, lt)); index = λ scopes first all noted behind j t lt at. absurd (omega (arith, lt)) }

pub loop-place-preserved : goal.loop-place-preserved
loop-place-preserved c =
    let inv = c.loop-place.invariant in
    let order = c.in_ok-order.order.items in
    let place = c.loop-place.place in
    let node = c.index.result.now in
    let within : place < length order = omega arith in
    let at : slice_get order place ≡ Some node = slice_get_read order (length order) place node refl within c.index.ensures in
    let made = c.in_ok-made.made.1.items in
    let now = c.loop-place.shapes.items in
    let done = c.in_ok-decide.ensures in
    record {
      rows = done.tables ∙ inv.rows;
      same = done.cores ∙ inv.same;
      decided = λ scopes first all noted behind. (
          let before = inv.decided scopes first all noted behind in
          let ready = ready_next scopes first made now order place node all noted behind inv.rows inv.same at before in
          decided_next scopes now c.decide.new.shapes.items order place node at before (done.decided scopes first ready) (done.kept scopes)
          );
      index = λ scopes first all noted behind. (
          let ready = ready_next scopes first made now order place node all noted behind inv.rows inv.same at (inv.decided scopes first all noted behind) in
          let free = subst (λ cs. IsIndexFree scopes cs (tables made) node) inv.same (subst (λ rows. IsIndexFree scopes (cores now) rows node) inv.rows (done.index scopes first ready)) in
          below_one (λ j t. IsIndexFree scopes (cores made) (tables made) t) order place node at (inv.index scopes first all noted behind) free
          );
    }

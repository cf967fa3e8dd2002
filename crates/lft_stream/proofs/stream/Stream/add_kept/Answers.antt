use Rattle.std.proofs.Common.{◌++◌, take, refl, subst, sym}
use Rattle.lft_rows.specs.inner.Marks.{AreBefore}
use Rattle.lft_stream.{specs.inner.Kept.IsStreamOf, proofs.Parting.rises_from}
use Rattle.lft_stream.proofs.stream.Stream.add_kept.Goals as goal

pub slice_from-slice-requires-clause-rises : goal.slice_from-slice-requires-clause-rises
slice_from-slice-requires-clause-rises c = rises_from c.requires.kept.0 c.args.plan.now c.args.rows.now c.requires.kept.1

pub add_slice-requires : goal.add_slice-requires
add_slice-requires c =
    let plan = c.args.plan.now in
    let rows = c.args.rows.now in
    let done = c.requires.stands.0 in
    let first = c.slice_from-slice.ensures.first in
    record {
      fit = c.requires.fit;
      kept = c.requires.kept;
      slice = c.slice_from-slice.ensures.slice;
      marks = subst (λ n. AreBefore plan.program n c.loop-first.marks) (sym first) c.loop-first.invariant.marks;
      stands = (done, subst (λ n. IsStreamOf plan (done ++ take n rows) c.loop-first.self) (sym first) (c.loop-first.invariant.stands done c.requires.stands.1));
      order = c.loop-first.invariant.order;
    }

pub loop-first-preserved : goal.loop-first-preserved
loop-first-preserved c = record {
  within = c.slice_from-slice.ensures.slice.within;
  rises = c.slice_from-slice.ensures.ends;
  marks = c.if-not-add_slice.ensures.marks refl;
  stands = λ done is. c.if-not-add_slice.ensures.stands refl done (subst (λ n. IsStreamOf c.args.plan.now (done ++ take n c.args.rows.now) c.loop-first.self) (sym c.slice_from-slice.ensures.first) (c.loop-first.invariant.stands done is));
  order = c.if-not-add_slice.ensures.order;
}

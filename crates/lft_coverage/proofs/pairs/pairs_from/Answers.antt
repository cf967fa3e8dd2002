use Rattle.std.proofs.Common.{◌≡◌, ◌+◌, true, false, length, min, refl, subst, arith}
use Rattle.lft_graph.specs.Counts.{Count, more, same}
use Rattle.lft_coverage.{specs.inner.Pairs.IsCountedWith, proofs.pairs.pairs_from.Goals.{then-is_counted, else-is_counted}}
use Rattle.lft_coverage.proofs.pairs.pairs_from.Goals as goal

pub loop-other-init : goal.loop-other-init
loop-other-init c = record {
  counted = λ n d. subst (λ k. Count (λ a. IsCountedWith c.args.overlaps.now a c.args.reaction) c.args.from k) (let e : n ≡ n + 0 = omega arith in e) d;
  few = omega arith;
}

pub loop-other-preserved : goal.loop-other-preserved
loop-other-preserved c =
    let few = c.loop-other.invariant.few in
    elim c.if-is_counted.branch [
      | then-is_counted w ↦
          let is = w.many-is in
          record {
            counted = λ n d. subst (λ k. Count (λ a. IsCountedWith c.args.overlaps.now a c.args.reaction) (c.loop-other.other + 1) k) (let e : (n + c.loop-other.many) + 1 ≡ n + c.if-is_counted.many = omega (arith, is) in e) (more (w.if-is_counted.ensures.0 refl) (c.loop-other.invariant.counted n d));
            few = omega (arith, is, few);
          }
      | else-is_counted w ↦
          let is = w.many-is in
          record {
            counted = λ n d. subst (λ k. Count (λ a. IsCountedWith c.args.overlaps.now a c.args.reaction) (c.loop-other.other + 1) k) (let e : n + c.loop-other.many ≡ n + c.if-is_counted.many = omega (arith, is) in e) (same (λ x. let z : ◌≡◌ false true = w.if-is_counted.ensures.1 x in absurd (cc)) (c.loop-other.invariant.counted n d));
            few = omega (arith, is, few);
          }
    ]

pub returns : goal.returns
returns c n d =
    let end = c.loop-other.auto.other-end in
    let e : c.loop-other.other ≡ min (length c.args.program.now.reactions) (c.args.from + 64) = omega (arith, end) in
    subst (λ k. Count (λ a. IsCountedWith c.args.overlaps.now a c.args.reaction) k (n + c.loop-other.many)) e (c.loop-other.invariant.counted n d)

use Rattle.std.proofs.Common.{false, length, sym, ap, subst, ◌∙◌, arith}
use Rattle.std.proofs.lemmas.List.{length_push}
use Rattle.lft_elaborate.{specs.inner.Used.AreMarked, proofs.Marks.marks_more}
use Rattle.lft_elaborate.proofs.counts.lengthen.Goals as goal

pub loop-more-preserved : goal.loop-more-preserved
loop-more-preserved c = record {
  long = (let l = ap length c.in_ok-push.ensures.items ∙ length_push c.loop-more.is_used.items false in let was = c.loop-more.invariant.long in let ok = c.push.new.self.ok.0 in let before = c.loop-more.is_used.ok.0 in omega (arith, l, was, ok, before));
  marked = λ used a. subst (AreMarked used) (sym c.in_ok-push.ensures.items) (marks_more used c.loop-more.is_used.items (c.loop-more.invariant.marked used a));
}

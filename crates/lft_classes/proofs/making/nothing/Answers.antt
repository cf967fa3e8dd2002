use Rattle.std.proofs.Common.{None, Some, inl, inr, sym, subst}
use Rattle.lft_lists.proofs.Places.{get_push_cases}
use Rattle.lft_classes.specs.inner.Makings.{KnowsNone}
use Rattle.lft_classes.proofs.making.nothing.Goals as goal

pub loop-preserved : goal.loop-preserved
loop-preserved c = subst KnowsNone (sym c.in_ok-push.ensures.items) (λ r s at. elim (get_push_cases c.loop.list.items None r (Some s) at) [ inl old ↦ c.loop.invariant r s old | inr last ↦ absurd (let e = last.1 in cc) ])

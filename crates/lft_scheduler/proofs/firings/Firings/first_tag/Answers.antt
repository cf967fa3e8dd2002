use Rattle.std.proofs.Common.{List, subst, sym, Contains}
use Rattle.lft_tag.specs.{declared.Tag.Tag, Tags.UpTo}
use Rattle.lft_scheduler.{specs.{declared.firings.Firing.Firing, inner.Firings.tag_of_firing}, proofs.FirstFirings.least_firing}
use Rattle.lft_scheduler.proofs.firings.Firings.first_tag.Goals as goal

pub returns-clause-least : goal.returns-clause-least
returns-clause-least c f k = subst (λ (g : Tag). UpTo g (tag_of_firing f)) (sym c.tag.ensures) (least_firing c.in-Some.first.now c.self.inside.heap.data.items (c.in-Some.ensures.greatest c.self.invariant) f (subst (λ (fs : List Firing). Contains fs f) (sym c.self.view_is) k))

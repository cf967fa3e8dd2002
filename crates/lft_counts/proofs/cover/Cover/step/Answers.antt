use Rattle.std.proofs.Common.{◌+◌, length, ap, sym, subst, ◌∙◌, arith}
use Rattle.lft_counts.specs.{Cover.IsCounting, Orders.Stands, Overlaps.Overlap}
use Rattle.lft_counts.proofs.cover.Cover.step.Goals as goal

pub add-requires : goal.add-requires
add-requires g c = let so = c.requires.1.1.1.1 in (c.requires.1.0, (c.requires.1.1.0, (c.requires.1.1.1.0, subst (λ i. IsCounting g.here.program g.here.trace i c.args.self.now.counting) so.1 so.0.counted)))

pub add-requires-2 : goal.add-requires-2
add-requires-2 g c = let so = c.requires.1.1.1.1 in (c.requires.0, (subst (λ i. Stands g.here.trace (length g.here.program.reactions) i c.args.self.now.orders) so.1 so.0.met, (c.requires.1.0, (c.requires.1.1.0, c.requires.1.1.1.0.reaction))))

pub add-requires-3 : goal.add-requires-3
add-requires-3 g c = let so = c.requires.1.1.1.1 in (c.requires.0, (subst (λ i. Overlap g.here.trace (length g.here.program.reactions) i c.args.self.now.overlaps) so.1 so.0.overlapped, (c.requires.1.0, (c.requires.1.1.0, c.requires.1.1.1.0.reaction))))

pub returns-clause-covers : goal.returns-clause-covers
returns-clause-covers g c =
    let n = ap (λ k. k + 1) (sym c.requires.1.1.1.1.1) in
    let so = c.requires.1.1.1.1.0 in
    record {
      counted = subst (λ i. IsCounting g.here.program g.here.trace i c.add.new.self) n c.in_ok-add.ensures;
      met = subst (λ i. Stands g.here.trace (length g.here.program.reactions) i c.add-2.new.self) n c.add-2.ensures.stands;
      overlapped = subst (λ i. Overlap g.here.trace (length g.here.program.reactions) i c.add-3.new.self) n c.add-3.ensures;
      inputs = c.add_row.ensures ∙ so.inputs;
    }

pub returns-clause-listed : goal.returns-clause-listed
returns-clause-listed g c = c.add-2.ensures.all

pub add_row-requires : goal.add_row-requires
add_row-requires g c = let so = c.requires.1.1.1.1.0.inputs in let l = c.requires.1.1.1.0.reaction in omega (arith, so, l)

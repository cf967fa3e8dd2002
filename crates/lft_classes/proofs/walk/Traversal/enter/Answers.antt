use Rattle.std.proofs.Common.{◌≡◌, ◌∷◌, ◌++◌, [], true, false, reverse, sym, ap, subst, ◌∙◌}
use Rattle.std.specs.{BTreeSet.contains, Ordering.nat_cmp}
use Rattle.lft_classes.{specs.{declared.walk.Visit.Visit, inner.Walks.EndsIn}, proofs.{Listing.entered_ordered, Sets.{kept, only, was_new}, Walking.entered_as}}
use Rattle.lft_classes.proofs.walk.Traversal.enter.Goals as goal

pub returns-then-is_new-clause-new : goal.returns-then-is_new-clause-new
returns-then-is_new-clause-new c added next first leads s =
    let new : contains nat_cmp c.args.self.now.met c.args.node ≡ false = was_new _ _ c.in_ok-is_new.ensures.added c.if-is_new.true in
    entered_as next first _ _ _ _ _ _ c.args.node leads s new c.in_ok-push.ensures.items c.in_ok-is_new.ensures.updates.1 (kept c.args.self.now.met c.insert.new.self c.args.node c.in_ok-is_new.ensures.updates) (only c.args.self.now.met c.insert.new.self c.args.node c.in_ok-is_new.ensures.updates)

pub returns-then-is_new-clause-order : goal.returns-then-is_new-clause-order
returns-then-is_new-clause-order c added next from first leads s is list now =
    let walk = c.args.self.now in
    let fresh : Visit = record { node = c.args.node; next = 0 } in
    let new : contains nat_cmp walk.met c.args.node ≡ false = was_new _ _ c.in_ok-is_new.ensures.added c.if-is_new.true in
    let path = c.in_ok-push.ensures.items ∙ ap (λ p. p ++ fresh ∷ []) leads.1.1 in
    is list (subst (λ p. EndsIn from walk.listed.items (reverse p) list) (sym leads.1.1) (entered_ordered from leads.1.0 leads.0 walk.listed.items list leads.2.0 c.args.node leads.2.1 (λ h. let e : false ≡ true = sym new ∙ s.met_list c.args.node h in absurd (cc)) (subst (λ p. EndsIn from walk.listed.items (reverse p) list) path now)))

use Rattle.std.proofs.Common.{◌≡◌, ◌∷◌, ◌++◌, [], ap, ◌∙◌}
use Rattle.lft_classes.{specs.declared.walk.Visit.Visit, proofs.{Listing.begun_ordered, Walking.begun_as, Sets.{alone, nowhere}}}
use Rattle.lft_classes.proofs.walk.Traversal.of.Goals as goal

pub returns-clause-walk : goal.returns-clause-walk
returns-clause-walk c next =
    let start : Visit = record { node = c.args.first; next = 0 } in
    let path : c.push.new.self.items ≡ start ∷ [] = c.in_ok-push.ensures.items ∙ ap (λ l. l ++ start ∷ []) c.new-path.ensures.items in
    begun_as next c.args.first _ _ _ _ c.new-listed.ensures.items path (nowhere c.new-done.result c.new-done.ensures.empty) c.in_ok-insert.ensures.updates.1 (alone c.new-met.result c.insert.new.self c.args.first c.new-met.ensures.empty c.in_ok-insert.ensures.updates)

pub returns-clause-order : goal.returns-clause-order
returns-clause-order c from =
    let start : Visit = record { node = c.args.first; next = 0 } in
    let path : c.push.new.self.items ≡ start ∷ [] = c.in_ok-push.ensures.items ∙ ap (λ l. l ++ start ∷ []) c.new-path.ensures.items in
    begun_ordered from c.args.first _ _ c.new-listed.ensures.items path

use Rattle.std.proofs.Common.{◌≡◌, ◌∷◌, List, map, sym, ap, subst, ◌∙◌, rules}
use Rattle.lft_tag.specs.declared.Tag.{Tag}
use Rattle.lft_ir.specs.declared.parts.Value.{Value}
use Rattle.lft_queue.{specs.inner.{Pending.names_at, Keys.{Key, pending_at, AreFrom}}, proofs.Named.{rest_from, none_named}}
use Rattle.lft_queue.proofs.names.NamesAtIterator.next.Goals as goal

pub invariant_of-self-then-not-is_same : goal.invariant_of-self-then-not-is_same
invariant_of-self-then-not-is_same c =
    let first : c.self.inside.events ≡ (c.in-Some.key.now, c.in-Some.field-0-1.now) ∷ c.next.new.self = search rules in
    rest_from c.self.inside.tag c.in-Some.key.now c.in-Some.field-0-1.now c.next.new.self (subst (λ (es : List (Key × Value)). AreFrom c.self.inside.tag es) first c.self.invariant)

pub invariant_of-self-2 : goal.invariant_of-self-2
invariant_of-self-2 c =
    let first : c.self.inside.events ≡ (c.in-Some.key.now, c.in-Some.field-0-1.now) ∷ c.next.new.self = search rules in
    rest_from c.self.inside.tag c.in-Some.key.now c.in-Some.field-0-1.now c.next.new.self (subst (λ (es : List (Key × Value)). AreFrom c.self.inside.tag es) first c.self.invariant)

pub returns-then-not-is_same-clause-steps : goal.returns-then-not-is_same-clause-steps
returns-then-not-is_same-clause-steps c =
    let k = c.in-Some.key.now in
    let v = c.in-Some.field-0-1.now in
    let first : c.self.inside.events ≡ (k, v) ∷ c.next.new.self = search rules in
    let apart : ¬ (c.self.inside.tag ≡ c.tag_of_key.result) = search rules in
    let none = none_named c.self.inside.tag k v c.next.new.self (subst (λ (es : List (Key × Value)). AreFrom c.self.inside.tag es) first c.self.invariant) (subst (λ (g : Tag). ¬ (c.self.inside.tag ≡ g)) c.tag_of_key.ensures apart) in
    (sym c.self.view_is ∙ ap (λ (es : List (Key × Value)). names_at c.self.inside.tag (map pending_at es)) first ∙ none.0, none.1)

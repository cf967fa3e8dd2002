-- What the first breach says of its rule, and what facts say of the breach.
use Rattle.std.proofs.Common.{◌≡◌, ℕ, ◌+◌, ◌<◌, ◌≤◌, ◌⊎◌, inl, inr, List, refl, sym, ◌∙◌, subst, arith, Option, Some, None, unwrap_or}
use Rattle.lft_tag.{specs.Tags.Before, proofs.Order.Before-irrefl}
use Rattle.lft_ir.specs.declared.steps.row.Row.{Row}
use Rattle.lft_model.specs.{declared.breach.Breach.Breach, Plans.PlanParts, Presence.Collision, inner.Breaches.{BreaksRow, BreaksTag, BreaksAt}}
use Rattle.lft_model.specs.Breaches.{TagBreach, TagOrder, First}
use Rattle.lft_rows.specs.Answers.Answers.{KeepsRows}
use Rattle.lft_facts.specs.{declared.facts.Fact.Fact, inner.Enough.Gives, Enough.ProvesTag}

-- the first breach by a tag, and that no row breaks a rule
pub record IsTagFirst (plan : PlanParts) (t : List Row) (b : Breach) : Type 0 where
  pub kept : KeepsRows plan t
  pub breach : TagBreach plan t b
  pub least : (c : Breach) → TagBreach plan t c → TagOrder b c

no_row_rule : (plan : PlanParts) (t : List Row) (i : ℕ) (row : Row) (k : ℕ) → 5 < k → ¬ BreaksRow plan t i row k
no_row_rule plan t i row k l (inl x) = let e = x.0 in absurd (omega arith)
no_row_rule plan t i row k l (inr (inl x)) = let e = x.0 in absurd (omega arith)
no_row_rule plan t i row k l (inr (inr (inl x))) = let e = x.0 in absurd (omega arith)
no_row_rule plan t i row k l (inr (inr (inr (inl x)))) = let e = x.0 in absurd (omega arith)
no_row_rule plan t i row k l (inr (inr (inr (inr x)))) = let e = x.0 in absurd (omega arith)

pub tag_first : (plan : PlanParts) (t : List Row) (b : Breach) → First plan t b → 5 < b.rule → IsTagFirst plan t b
tag_first plan t b (inl x) l = absurd (no_row_rule plan t x.0.place x.0.row b.rule l x.0.breaks)
tag_first plan t b (inr x) l = record { kept = x.0; breach = x.1; least = x.2 }

-- a breach of a reaction at a tag, by its rule
module _ (plan : PlanParts) (t : List Row) (b : Breach) (first : First plan t b) (r k : ℕ) (is_reaction : b.reaction ≡ Some r) (is_rule : b.rule ≡ k) (above : 5 < k) where
  pub is_first : IsTagFirst plan t b
  is_first = tag_first plan t b first (omega arith)

  pub breaks : BreaksTag plan t b.tag r k
  breaks = subst (λ (n : ℕ). BreaksAt plan t b.tag (Some r) n) is_rule (subst (λ (o : Option ℕ). BreaksAt plan t b.tag o b.rule) is_reaction is_first.breach.breaks)

  -- what gives the rule at the tag gives the breach
  pub proves : (facts : List Fact) → Gives facts b.tag (Some r) k → ProvesTag facts b
  proves facts gives other s all kept up = record { in_time = up; breaks = subst (λ (o : Option ℕ). BreaksAt other s b.tag o b.rule) (sym is_reaction) (subst (λ (n : ℕ). BreaksAt other s b.tag (Some r) n) (sym is_rule) (gives other s all kept)); row_is = is_first.breach.row_is }

  pub no_clash : 6 < k → ¬ Collision plan t b.tag
  no_clash l c = go (is_first.least (record { rule = 6; tag = b.tag; reaction = None; row = 0 }) (record { in_time = is_first.breach.in_time; breaks = (refl, c); row_is = refl }))
    where
      go : Before b.tag b.tag ⊎ ((b.tag ≡ b.tag) × ((b.rule < 6) ⊎ ((b.rule ≡ 6) × (unwrap_or b.reaction 0 ≤ 0)))) → ⊥
      go (inl x) = Before-irrefl b.tag x
      go (inr (e, inl x)) = absurd (omega arith)
      go (inr (e, inr x)) = let q = x.0 in absurd (omega arith)

-- the first breach of no reaction is a collision
pub record IsClashFirst (plan : PlanParts) (t : List Row) (b : Breach) : Type 0 where
  pub rule_is : b.rule ≡ 6
  pub clash : Collision plan t b.tag
  pub breach : TagBreach plan t b

pub clash_first : (plan : PlanParts) (t : List Row) (b : Breach) → First plan t b → b.reaction ≡ None → IsClashFirst plan t b
clash_first plan t b (inl x) none = let z : Some x.0.row.reaction ≡ None = sym x.0.reaction_is ∙ none in absurd (cc)
clash_first plan t b (inr x) none =
    let q : BreaksAt plan t b.tag None b.rule = subst (λ (o : Option ℕ). BreaksAt plan t b.tag o b.rule) none x.1.breaks in
    record { rule_is = q.0; clash = q.1; breach = x.1 }

pub clash_proves : (plan : PlanParts) (t : List Row) (b : Breach) → First plan t b → b.reaction ≡ None → (facts : List Fact) → Gives facts b.tag None 6 → ProvesTag facts b
clash_proves plan t b first none facts gives other s all kept up =
    let k = clash_first plan t b first none in
    record { in_time = up; breaks = subst (λ (o : Option ℕ). BreaksAt other s b.tag o b.rule) (sym none) (subst (λ (n : ℕ). BreaksAt other s b.tag None n) (sym k.rule_is) (gives other s all kept)); row_is = k.breach.row_is }

-- a first breach without a row is one at a tag, and one with a row is of the row
pub of_tag : (plan : PlanParts) (t : List Row) (b : Breach) → First plan t b → b.row ≡ 0 → IsTagFirst plan t b
of_tag plan t b (inl x) z = let e : b.row ≡ x.0.place + 2 = x.0.row_is in absurd (omega arith)
of_tag plan t b (inr x) z = record { kept = x.0; breach = x.1; least = x.2 }

-- a rule of a reaction at a tag that is none of 7 to 9 is the tenth
pub is_tenth : (plan : PlanParts) (t : List Row) (b : Breach) (r : ℕ) → TagBreach plan t b → b.reaction ≡ Some r → ¬ (b.rule ≡ 7) → ¬ (b.rule ≡ 8) → ¬ (b.rule ≡ 9) → b.rule ≡ 10
is_tenth plan t b r x is a c d = go (subst (λ (o : Option ℕ). BreaksAt plan t b.tag o b.rule) is x.breaks)
  where
    go : BreaksTag plan t b.tag r b.rule → b.rule ≡ 10
    go (inl y) = absurd (a y.0)
    go (inr (inl y)) = absurd (c y.0)
    go (inr (inr (inl y))) = absurd (d y.0)
    go (inr (inr (inr y))) = y.0

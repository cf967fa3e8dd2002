-- Two traces of which the rules 6 to 10 ask the same at a tag.
use Rattle.std.proofs.Common.{ℕ, inl, inr, List, Option, Some, None}
use Rattle.lft_tag.specs.{declared.Tag.Tag, Tags.UpTo}
use Rattle.lft_ir.specs.declared.steps.row.Row.{Row}
use Rattle.lft_model.specs.{declared.breach.Breach.Breach, Plans.PlanParts, Presence.{TriggeredUntil, Inputs, Collision}, Runs.{Ran, reads_at}}
use Rattle.lft_model.specs.Breaches.{IsTooEarly, BreaksTagUntil, BreaksAtUntil, TagBreachUntil}

-- what the rules 6 to 10 ask of one trace at a tag, where one stop is the last, holds of another, with its plan and its stop
pub record SameAt (plan other : PlanParts) (last final : Tag) (t s : List Row) (g : Tag) : Type 0 where
  pub in_time : UpTo g last → UpTo g final
  pub triggered : (r : ℕ) → TriggeredUntil last plan t g r → TriggeredUntil final other s g r
  pub triggered_back : (r : ℕ) → TriggeredUntil final other s g r → TriggeredUntil last plan t g r
  pub ran : (r : ℕ) → Ran t g r → Ran s g r
  pub ran_back : (r : ℕ) → Ran s g r → Ran t g r
  pub early : (r : ℕ) → IsTooEarly plan t g r → IsTooEarly other s g r
  pub reads_back : (r : ℕ) → Inputs other s g r (reads_at other s g r) → Inputs plan t g r (reads_at plan t g r)
  pub collision : Collision plan t g → Collision other s g

pub same_breach : (plan other : PlanParts) (last final : Tag) (t s : List Row) (b : Breach) → SameAt plan other last final t s b.tag → TagBreachUntil last plan t b → TagBreachUntil final other s b
same_breach plan other last final t s b m x = record { in_time = m.in_time x.in_time; breaks = at b.reaction b.rule x.breaks; row_is = x.row_is }
  where
    tag : (r k : ℕ) → BreaksTagUntil last plan t b.tag r k → BreaksTagUntil final other s b.tag r k
    tag r k (inl y) = inl (y.0, m.triggered r y.1, λ z. y.2 (m.ran_back r z))
    tag r k (inr (inl y)) = inr (inl (y.0, m.ran r y.1, λ z. y.2 (m.triggered_back r z)))
    tag r k (inr (inr (inl y))) = inr (inr (inl (y.0, m.ran r y.1, m.early r y.2)))
    tag r k (inr (inr (inr y))) = inr (inr (inr (y.0, m.ran r y.1, λ z. y.2 (m.reads_back r z))))

    at : (o : Option ℕ) (k : ℕ) → BreaksAtUntil last plan t b.tag o k → BreaksAtUntil final other s b.tag o k
    at None k y = (y.0, m.collision y.1)
    at (Some r) k y = tag r k y

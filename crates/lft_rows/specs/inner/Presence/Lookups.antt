-- Which causes of events lead to a tag, before it or after it. A key is the origin of a port, or stands for an action.
use Rattle.std.specs.Prelude.{◌≡◌, ℕ, List, Option, MatchOption}
use Rattle.lft_tag.specs.{declared.Tag.Tag, Tags.Before, Shifts.{Folded, shifted}}
use Rattle.lft_ir.specs.declared.steps.row.Row.{Row}
use Rattle.lft_model.specs.Plans.{PlanParts}
use Rattle.lft_rows.specs.{declared.presence.causes.EventCause.EventCause, inner.Presence.Causes.{tag_of, ComesUpTo, Leads, IsCause}}

-- of the causes of a key that lead to g the first, if any
abbrev pub IsFirstCause : PlanParts → List Row → ℕ → Folded → Tag → Option EventCause → Type 0
IsFirstCause plan t key s g o = MatchOption o ((c : EventCause) → IsCause plan t c → ¬ Leads key s g c) (λ c. IsCause plan t c × Leads key s g c × ((d : EventCause) → IsCause plan t d → Leads key s g d → ComesUpTo c d))

-- the cause is of the key and leads to a tag before g
abbrev pub LeadsBefore : ℕ → Folded → Tag → EventCause → Type 0
LeadsBefore key s g c = (c.name ≡ key) × Before (shifted (tag_of c) s) g

-- of the causes of a key that lead to a tag before g the last, if any
abbrev pub IsLastBefore : PlanParts → List Row → ℕ → Folded → Tag → Option EventCause → Type 0
IsLastBefore plan t key s g o = MatchOption o ((c : EventCause) → IsCause plan t c → ¬ LeadsBefore key s g c) (λ c. IsCause plan t c × LeadsBefore key s g c × ((d : EventCause) → IsCause plan t d → LeadsBefore key s g d → ComesUpTo d c))

-- the cause is of the key and leads to a tag after g
abbrev pub LeadsAfter : ℕ → Folded → Tag → EventCause → Type 0
LeadsAfter key s g c = (c.name ≡ key) × Before g (shifted (tag_of c) s)

-- of the causes of a key that lead to a tag after g the first, if any
abbrev pub IsFirstAfter : PlanParts → List Row → ℕ → Folded → Tag → Option EventCause → Type 0
IsFirstAfter plan t key s g o = MatchOption o ((c : EventCause) → IsCause plan t c → ¬ LeadsAfter key s g c) (λ c. IsCause plan t c × LeadsAfter key s g c × ((d : EventCause) → IsCause plan t d → LeadsAfter key s g d → ComesUpTo c d))

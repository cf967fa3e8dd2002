-- Inside: the ten rules, and the first breach.
use Rattle.std.specs.Prelude.{ℕ, List, Option}
use Rattle.lft_tag.specs.declared.Tag.{Tag}
use Rattle.lft_ir.specs.declared.steps.row.Row.{Row}
use Rattle.lft_model.specs.{Plans.PlanParts, Presence.stop, Breaches.{BreaksRowUntil, BreaksTagUntil, BreaksAtUntil}}

-- the row, the tag with a reaction, or the tag breaks a rule, where the trace's own stop tag counts
abbrev pub BreaksRow : PlanParts → List Row → ℕ → Row → ℕ → Type 0
BreaksRow plan t i row k = BreaksRowUntil (stop plan t) plan t i row k

abbrev pub BreaksTag : PlanParts → List Row → Tag → ℕ → ℕ → Type 0
BreaksTag plan t g r k = BreaksTagUntil (stop plan t) plan t g r k

abbrev pub BreaksAt : PlanParts → List Row → Tag → Option ℕ → ℕ → Type 0
BreaksAt plan t g o k = BreaksAtUntil (stop plan t) plan t g o k
